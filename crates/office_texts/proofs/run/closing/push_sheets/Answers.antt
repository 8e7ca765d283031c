use Rattle.std.proofs.Common.{◌≡◌, ◌+◌, ◌-◌, ◌++◌, ◌∙◌, string_bytes, append_assoc, append-nil, sym, ap, arith}
use Rattle.docket_rows.specs.declared.query.Query.TheVariants as query
use Rattle.docket_rows.specs.Words.{setup_of, seen_by}
use Rattle.office_texts.specs.Run.Text.{sheet_shown, sheets_from}
use Rattle.office_texts.proofs.RunLemmas.RunLemmas.{sheets_more}
use Rattle.office_texts.proofs.run.closing.push_sheets.Goals as goal

pub loop-case-preserved : goal.loop-case-preserved
loop-case-preserved g c =
    let court = c.args.court.now in
    let parts = g.D.Closing.parts c.args.docket.now in
    let case = c.loop-case.case in
    let end = c.args.first + c.args.count in
    let before = string_bytes c.loop-case.text in
    let view = c.in_ok-view.view in
    let later = sheets_from court parts (case + 1) (end - (case + 1)) in
    let shown : sheet_shown court view ≡ sheet_shown court (seen_by (setup_of court) parts (query.Sheet case)) = ap (sheet_shown court) (c.in_ok-view.ensures ∙ ap (λ b. seen_by b parts (query.Sheet case)) c.requires.court) in
    record {
      within = omega (arith, c.loop-case-test.true);
      so_far = rw c.in_ok-push_sheet_shown.ensures (append_assoc before (sheet_shown court view) later ∙ ap (λ s. before ++ s) (ap (λ t. t ++ later) shown ∙ sym (sheets_more court parts case end (omega (arith, c.loop-case-test.true)))) ∙ c.loop-case.invariant.so_far);
    }

pub returns : goal.returns
unfolding sheets_from
returns g c =
    let none : c.args.first + c.args.count - c.loop-case.case ≡ 0 = omega (arith, c.loop-case-test.false) in
    sym (append-nil _) ∙ rw none at c.loop-case.invariant.so_far
