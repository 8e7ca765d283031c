use Rattle.std.proofs.Common.{◌≡◌, ◌+◌, ◌-◌, ◌∙◌, string_bytes, ap, arith}
use Rattle.docket_rows.specs.declared.query.Query.TheVariants as query
use Rattle.docket_rows.specs.Words.{setup_of, view_of}
use Rattle.desk_numbers.specs.Words.{numbered_view}
use Rattle.report_texts.specs.Words.{LabelsView}
use Rattle.report_memo.specs.Memo.{IsSheetOf}
use Rattle.report_memo.specs.Texts.{Adds}
use Rattle.report_memo.proofs.DocketLemmas.{days_read}
use Rattle.report_memo.proofs.TextLemmas.{adds_range, adds_range_end}
use Rattle.report_memo.proofs.sheets.push_sheets.Goals as goal

pub loop-case-preserved : goal.loop-case-preserved
loop-case-preserved c =
    let court = c.args.court.now in
    let setup = setup_of court in
    let case = c.loop-case.case in
    let end = c.args.first + c.args.count in
    record {
      within = omega (arith, c.loop-case-test.true);
      leads = λ docketed new holds rest.
          let marked : c.labels.inside.doubtful.now ≡ c.args.labels.now.doubtful = ap (λ (l : LabelsView). l.doubtful) c.labels.view_is in
          let days = days_read setup c.args.docket.now docketed holds c.args.labels.now _ _ _ c.in_ok-days.ensures c.days.ensures marked in
          let moved : c.labels.inside.moved.now ≡ c.args.labels.now.moved = ap (λ (l : LabelsView). l.moved) c.labels.view_is in
          let view = rw moved at c.number_view-numbered.ensures ∙ ap (numbered_view c.args.labels.now.moved) (c.in_ok-view.ensures.rows docketed holds.stands ∙ ap (λ b. view_of b docketed (query.Sheet case)) holds.setup_is) in
          let shown : Adds (IsSheetOf court c.args.labels.now docketed case) (string_bytes c.loop-case.text) _ = rw view at (rw days at c.in_ok-push_sheet_shown.ensures) in
          c.loop-case.invariant.leads docketed new holds (adds_range (IsSheetOf court c.args.labels.now docketed) case end (string_bytes c.loop-case.text) _ new (omega (arith, c.loop-case-test.true)) shown rest);
    }

pub returns : goal.returns
returns c docketed holds =
    let none : c.args.first + c.args.count - c.loop-case.case ≡ 0 = omega (arith, c.loop-case-test.false) in
    c.loop-case.invariant.leads docketed (string_bytes c.loop-case.text) holds (rw none (adds_range_end (IsSheetOf c.args.court.now c.args.labels.now docketed) c.loop-case.case (string_bytes c.loop-case.text)))
