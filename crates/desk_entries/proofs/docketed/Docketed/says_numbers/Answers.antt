use Rattle.std.proofs.Common.{rules, ◌≡◌, ◌∙◌, true, List, subst, sym}
use lib.Pointwise.{pointwise, pointwise_decides}
use Rattle.desk_numbers.specs.declared.said.Said.{Said}
use Rattle.desk_numbers.specs.contracts.said.SaidPartialEq.TheImpl.{eq-value}
use Rattle.desk_entries.proofs.docketed.Docketed.says_numbers.Goals as goal

-- what two lists are compared by: that they say the same of each row
same_said : (x y : Said) → eq-value.it x y ≡ true → x ≡ y
same_said x y h = search rules

own_said : (x : Said) → eq-value.it x x ≡ true
own_said x = search rules

decides : (xs ys : List Said) → (pointwise eq-value.it xs ys ≡ true → xs ≡ ys) × (xs ≡ ys → pointwise eq-value.it xs ys ≡ true)
decides = pointwise_decides (λ x y. (same_said x y, λ e. subst (λ z. eq-value.it x z ≡ true) e (own_said x)))

pub returns-clause-says : goal.returns-clause-says
returns-clause-says c = λ kept stands same.
    sym c.in_ok-said.ensures ∙ sym c.as_slice.ensures.value ∙ (decides c.as_slice.result.now c.as_slice-2.result.now).0 (sym c.eq.ensures ∙ same) ∙ c.as_slice-2.ensures.value ∙ c.in_ok-unsaid.ensures.said kept stands

pub returns-clause-other : goal.returns-clause-other
returns-clause-other c = λ kept stands other says.
    let equal : c.as_slice.result.now ≡ c.as_slice-2.result.now = c.as_slice.ensures.value ∙ c.in_ok-said.ensures ∙ says ∙ sym (c.in_ok-unsaid.ensures.said kept stands) ∙ sym c.as_slice-2.ensures.value in
    let holds : c.eq.result ≡ true = c.eq.ensures ∙ (decides c.as_slice.result.now c.as_slice-2.result.now).1 equal in
    cc (holds, other)
