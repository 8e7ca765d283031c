use Rattle.std.proofs.Common.{◌≡◌, ◌∙◌, ◌+◌, ◌-◌, ◌++◌, ℕ, List, ap, append_assoc, append-nil, arith, string_bytes, sym}
use Rattle.docket_rows.specs.declared.query.Query.TheVariants as query
use Rattle.docket_rows.specs.declared.view.View.{View}
use Rattle.docket_rows.specs.Words.{CourtSetup, setup_of, view_of}
use Rattle.desk_numbers.specs.Words.{numbered_view}
use Rattle.desk_register.specs.Shifts.{sheet_shifts, shifts_from}
use Rattle.desk_register.proofs.ShiftLemmas.{shifts_more}
use Rattle.desk_register.proofs.shifts.push_sheets.Goals as goal

pub loop-case-preserved : goal.loop-case-preserved
loop-case-preserved c = record {
  within = omega (arith, c.loop-case-test.true);
  so_far = λ docketed holds.
      let court = c.args.court.now in
      let setup = setup_of court in
      let moved = c.args.moved.now in
      let named = c.args.cases.now.named in
      let case = c.loop-case.case in
      let end = c.args.first + c.args.count in
      let before = string_bytes c.loop-case.text in
      let sheet = λ (v : View). sheet_shifts court c.args.before.now named v in
      let shown = numbered_view moved (view_of setup docketed (query.Sheet case)) in
      let later = shifts_from court docketed moved named c.args.before.now (case + 1) (end - (case + 1)) in
      let seen : c.number_view-view.result ≡ shown =
      c.number_view-view.ensures ∙ ap (numbered_view moved) (c.in_ok-seen.ensures.rows docketed holds.stands ∙ ap (λ (s : CourtSetup). view_of s docketed (query.Sheet case)) holds.setup_is) in
      ap (λ (l : List ℕ). l ++ later) (c.in_ok-push_sheet.ensures ∙ ap (λ (v : View). before ++ sheet v) seen)
      ∙ append_assoc before (sheet shown) later
      ∙ ap (λ (l : List ℕ). before ++ l) (sym (shifts_more court docketed moved named c.args.before.now case end c.loop-case-test.true))
      ∙ c.loop-case.invariant.so_far docketed holds;
}

pub returns : goal.returns
unfolding shifts_from
returns c = λ docketed holds.
    let none : c.args.first + c.args.count - c.loop-case.case ≡ 0 = omega (arith, c.loop-case-test.false) in
    sym (append-nil _) ∙ rw none at (c.loop-case.invariant.so_far docketed holds)
