-- A number stays with the row that gave it first.
use Rattle.std.proofs.Common.{◌≡◌, ◌∙◌, ◌+◌, ◌<◌, ◌≤◌, ℕ, Bool, true, false, cond, List, [], ◌∷◌, ◌++◌, Option, Some, None, drop, get_or, length, max, refl, sym, ap, subst, arith}
use Rattle.std.specs.Prelude.{All, nat_eq, nat_le}
use Rattle.std.proofs.lemmas.Bool.Decides.{nat_tests}
use Rattle.std.proofs.lemmas.List.{at_drop_more, drop_all}
use Rattle.std.proofs.lemmas.List.Elements.{All-nil, All-cons}
use Rattle.docket_rows.specs.declared.command.Counted.{Counted}
use Rattle.desk_numbers.specs.declared.given.Given.{Given}
use Rattle.desk_numbers.specs.declared.moved.Moved.{Moved}
use Rattle.desk_numbers.specs.Kept.{after_given, after_one}
use Rattle.desk_numbers.specs.Laws.{ANumberIsGivenOnce, ARowKeepsItsNumber, IsAfterKept, IsAfterMoved, NothingMovesAtFirst}
use Rattle.desk_numbers.specs.Moved.{after_it, after_moved}
use Rattle.desk_numbers.specs.Numbers.{last_number, new_number, next_for, number_for, numbers_after, own_or}

pub keeps : ARowKeepsItsNumber
keeps kept moved row own at is = ap (λ o. own_or o (new_number kept moved at)) is

-- what isn't less than the least number after all comes after each
one_before : (at : Given) (bound : ℕ) (g : Option Given) → after_one g at.case at.counted ≤ bound → IsAfterKept at bound g
one_before at bound None h = tt
one_before at bound (Some own) h = λ is. let after : own.number + 1 ≤ bound = subst (λ b. cond b (own.number + 1) 0 ≤ bound) is h in omega (arith, after)

kept_before : (kept : List (Option Given)) (at : Given) (bound : ℕ) → after_given kept at.case at.counted ≤ bound → All (IsAfterKept at bound) kept
unfolding after_given
kept_before [] at bound h = All-nil (IsAfterKept at bound)
kept_before (g ∷ kept) at bound h = All-cons (IsAfterKept at bound) g kept (one_before at bound g (omega (arith, h))) (kept_before kept at bound (omega (arith, h)))

one_moved : (at : Given) (bound : ℕ) (m : Moved) → after_it at.case at.counted m ≤ bound → IsAfterMoved at bound m
one_moved at bound m h = λ is. let after : m.number + 1 ≤ bound = subst (λ b. cond b (m.number + 1) 0 ≤ bound) is h in omega (arith, after)

moved_before : (moved : List Moved) (at : Given) (bound : ℕ) → after_moved moved at.case at.counted ≤ bound → All (IsAfterMoved at bound) moved
unfolding after_moved
moved_before [] at bound h = All-nil (IsAfterMoved at bound)
moved_before (m ∷ moved) at bound h = All-cons (IsAfterMoved at bound) m moved (one_moved at bound m (omega (arith, h))) (moved_before moved at bound (omega (arith, h)))

pub given_once : ANumberIsGivenOnce
given_once kept moved row at none room =
    let next = next_for kept moved at in
    let fits : nat_le next last_number ≡ true = grind (arith, nat_tests) in
    let is : number_for kept moved row at ≡ next = ap (λ o. own_or o (new_number kept moved at)) none ∙ ap (λ b. cond b next at.number) fits in (
      subst (λ n. at.number ≤ n) (sym is) (omega arith),
      subst (λ n. All (IsAfterKept at n) kept) (sym is) (kept_before kept at next (omega arith)),
      subst (λ n. All (IsAfterMoved at n) moved) (sym is) (moved_before moved at next (omega arith)),
    )

-- before the first correction
same : (n : ℕ) → nat_eq n n ≡ true
same n = grind (arith, nat_tests)

first_number : (row : ℕ) (at : Given) → number_for [] [] row at ≡ at.number
unfolding after_given after_moved
first_number row at = ap (λ n. cond (nat_le n last_number) n at.number) alone ∙ both (nat_le at.number last_number)
  where
    alone : max (max 0 0) at.number ≡ at.number
    alone = omega arith

    both : (b : Bool) → cond b at.number at.number ≡ at.number
    both true = refl
    both false = refl

pub nothing_moves : NothingMovesAtFirst
unfolding numbers_after
nothing_moves numbers row None none = none
nothing_moves numbers row (Some at) none =
    let at_its_place : nat_eq at.number (number_for [] numbers.moved row at) ≡ true = ap (λ (m : List Moved). nat_eq at.number (number_for [] m row at)) none ∙ ap (nat_eq at.number) (first_number row at) ∙ same at.number in
    ap (λ b. cond b numbers.moved (numbers.moved ++ record { case = at.case; counted = at.counted; place = at.number; number = number_for [] numbers.moved row at } ∷ [])) at_its_place ∙ none

-- the least number after some, and after the others
more_max : (next one rest : ℕ) → max (max next one) rest ≡ max next (max one rest)
more_max next one rest = omega arith

pub given_on : (kept : List (Option Given)) (i : ℕ) (d : Option Given) (case : ℕ) (counted : Counted) (next : ℕ) → i < length kept
    → max (max next (after_one (get_or kept i d) case counted)) (after_given (drop (i + 1) kept) case counted) ≡ max next (after_given (drop i kept) case counted)
unfolding after_given
given_on kept i d case counted next within =
    more_max next (after_one (get_or kept i d) case counted) (after_given (drop (i + 1) kept) case counted) ∙ ap (max next) (sym (at_drop_more (λ l. after_given l case counted) kept i d within))

pub moved_on : (moved : List Moved) (i : ℕ) (d : Moved) (case : ℕ) (counted : Counted) (next : ℕ) → i < length moved
    → max (max next (after_it case counted (get_or moved i d))) (after_moved (drop (i + 1) moved) case counted) ≡ max next (after_moved (drop i moved) case counted)
unfolding after_moved
moved_on moved i d case counted next within =
    more_max next (after_it case counted (get_or moved i d)) (after_moved (drop (i + 1) moved) case counted) ∙ ap (max next) (sym (at_drop_more (λ l. after_moved l case counted) moved i d within))

-- after all of them nothing is left
pub given_all : (kept : List (Option Given)) (i : ℕ) (case : ℕ) (counted : Counted) (next : ℕ) → length kept ≤ i → max next (after_given (drop i kept) case counted) ≡ next
unfolding after_given
given_all kept i case counted next past = ap (λ (l : List (Option Given)). max next (after_given l case counted)) (drop_all i kept past) ∙ omega arith

pub moved_all : (moved : List Moved) (i : ℕ) (case : ℕ) (counted : Counted) (next : ℕ) → length moved ≤ i → max next (after_moved (drop i moved) case counted) ≡ next
unfolding after_moved
moved_all moved i case counted next past = ap (λ (l : List Moved). max next (after_moved l case counted)) (drop_all i moved past) ∙ omega arith
