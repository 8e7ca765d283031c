use Rattle.std.proofs.Common.{◌∙◌, ◌≡◌, ◌+◌, ◌-◌, ◌++◌, ℕ, List, ap, append_assoc, append-nil, arith, string_bytes, sym}
use Rattle.docket_shifts.specs.Compared.{rows_shown}
use Rattle.docket_shifts.specs.Shifts.{case_shifts, shifts_from}
use Rattle.docket_shifts.proofs.ShiftLemmas.{shifts_more}
use Rattle.docket_shifts.proofs.shifts.push_cases.Goals as goal

pub loop-case-preserved : goal.loop-case-preserved
loop-case-preserved c = record {
  within = omega (arith, c.loop-case-test.true);
  so_far = λ was is holds then_holds.
      let before = rows_shown c.args.before.now was in
      let after = rows_shown c.args.after.now is in
      let case = c.loop-case.case in
      let end = c.args.first + c.args.count in
      let text = string_bytes c.loop-case.text in
      let later = shifts_from before after (case + 1) (end - (case + 1)) in
      ap (λ (l : List ℕ). l ++ later) (c.in_ok-push_case.ensures was is holds then_holds)
      ∙ append_assoc text (case_shifts before after case) later
      ∙ ap (λ (l : List ℕ). text ++ l) (sym (shifts_more before after case end c.loop-case-test.true))
      ∙ c.loop-case.invariant.so_far was is holds then_holds;
}

pub returns : goal.returns
unfolding shifts_from
returns c = λ was is holds then_holds.
    let none : c.args.first + c.args.count - c.loop-case.case ≡ 0 = omega (arith, c.loop-case-test.false) in
    sym (append-nil _) ∙ rw none at (c.loop-case.invariant.so_far was is holds then_holds)
