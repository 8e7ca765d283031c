use Rattle.std.proofs.Common.{◌≡◌, ◌+◌, ◌-◌, arith, map, string_bytes}
use Rattle.docket_core.specs.Words.{parts_held}
use Rattle.docket_laws.proofs.CallerLemmas.{hold_same}
use Rattle.docket_rows.specs.Words.{parts_of}
use Rattle.desk_numbers.specs.Words.{numbered_booking}
use Rattle.office_texts.specs.Named.Words.{named_calendar}
use Rattle.report_memo.specs.Memo.{IsCalendarOf}
use Rattle.report_memo.specs.Texts.{Adds}
use Rattle.report_memo.proofs.TextLemmas.{adds_range, adds_range_end, adds_text}
use Rattle.report_memo.proofs.calendars.push_calendars.Goals as goal

pub loop-judge-preserved : goal.loop-judge-preserved
loop-judge-preserved c =
    let court = c.args.court.now in
    let labels = c.args.labels.now in
    let judge = c.loop-judge.judge in
    let end = c.args.first + c.args.count in
    record {
      within = omega (arith, c.loop-judge-test.true);
      leads = λ docketed new holds rest.
          let held = (hold_same (parts_held c.args.docket.now) (parts_of docketed) holds.stands).judge judge in
          let shown : Adds (IsCalendarOf court labels docketed judge) (string_bytes c.loop-judge.text) _ =
          adds_text (named_calendar court labels.cases judge (map (numbered_booking labels.moved) ((parts_of docketed).judge judge))) _ _ (rw held at c.in_ok-push_judge.ensures) in
          c.loop-judge.invariant.leads docketed new holds (adds_range (IsCalendarOf court labels docketed) judge end (string_bytes c.loop-judge.text) _ new (omega (arith, c.loop-judge-test.true)) shown rest);
    }

pub returns : goal.returns
returns c docketed holds =
    let none : c.args.first + c.args.count - c.loop-judge.judge ≡ 0 = omega (arith, c.loop-judge-test.false) in
    c.loop-judge.invariant.leads docketed (string_bytes c.loop-judge.text) holds (rw none (adds_range_end (IsCalendarOf c.args.court.now c.args.labels.now docketed) c.loop-judge.judge (string_bytes c.loop-judge.text)))
