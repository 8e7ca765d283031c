use Rattle.std.proofs.Common.{◌≤◌, length, string_bytes, sym, arith}
use Rattle.report_memo.specs.Sheets.{IsDeadline}
use Rattle.report_memo.proofs.TextLemmas.{adds_end, adds_more}
use Rattle.report_memo.proofs.sheets.push_deadlines.Goals as goal

pub loop-deadline-preserved : goal.loop-deadline-preserved
loop-deadline-preserved c new rest =
    c.loop-deadline.invariant new (adds_more (IsDeadline c.args.court.now c.args.labels.now c.args.days.now c.args.sheet.now c.args.detail.now) c.args.deadlines.now c.loop-deadline.deadline-index c.deadline-item.result (string_bytes c.loop-deadline.text) _ new c.loop-deadline-test.true (sym c.deadline-item.is) c.in_ok-push_explained.ensures rest)

pub returns : goal.returns
returns c =
    let past : length c.args.deadlines.now ≤ c.loop-deadline.deadline-index = omega (arith, c.loop-deadline-test.false) in
    c.loop-deadline.invariant (string_bytes c.loop-deadline.text) (adds_end (IsDeadline c.args.court.now c.args.labels.now c.args.days.now c.args.sheet.now c.args.detail.now) c.args.deadlines.now c.loop-deadline.deadline-index (string_bytes c.loop-deadline.text) past)
