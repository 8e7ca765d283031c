-- What is said of rows, and what they keep after it.
use Rattle.std.proofs.Common.{◌≡◌, ◌∙◌, ◌+◌, ◌-◌, ◌<◌, ◌≤◌, ◌&&◌, ℕ, zero, suc, Bool, true, false, cond, List, [], ◌∷◌, ◌++◌, Option, Some, None, drop, get_or, length, refl, sym, ap, append_assoc, arith}
use Rattle.std.specs.Prelude.{nat_eq, replicate}
use Rattle.std.proofs.lemmas.Bool.Decides.{nat_tests}
use Rattle.std.proofs.lemmas.List.{append-nil, at_drop_more, drop_all, length-append, length-replicate, length_push, set_at}
use Rattle.docket_rows.specs.declared.command.Counted.{Counted}
use Rattle.docket_rows.specs.declared.command.Counted.TheVariants.{Deadline, Motion}
use Rattle.docket_rows.specs.Words.{are_alike}
use Rattle.desk_numbers.specs.declared.given.Given.{Given}
use Rattle.desk_numbers.specs.declared.said.Said.{Said}
use Rattle.desk_numbers.specs.Kept.{kept_of}
use Rattle.desk_numbers.specs.Said.{WhatIsSaidIsKept, extended, keeps, kept_with, said_of, unsaid, with_all, with_said}

-- what is to be said of the rows so far, with one more
pub unsaid_on : (kept given : List (Option Given)) (i row : ℕ) (d own : Option Given) (so_far more after : List Said) → i < length given → row ≡ i + 1 → after ≡ so_far ++ more → own ≡ kept_of kept row → more ≡ said_of own (get_or given i d) row
    → after ++ unsaid kept (drop (i + 1) given) (i + 1 + 1) ≡ so_far ++ unsaid kept (drop i given) (i + 1)
unfolding unsaid
unsaid_on kept given i row d own so_far more after within is longer own_is said =
    ap (λ l. l ++ unsaid kept (drop (i + 1) given) (i + 1 + 1)) longer
    ∙ append_assoc so_far more (unsaid kept (drop (i + 1) given) (i + 1 + 1))
    ∙ ap (λ m. so_far ++ (m ++ unsaid kept (drop (i + 1) given) (i + 1 + 1))) (said ∙ ap (λ o. said_of o (get_or given i d) row) own_is ∙ ap (λ r. said_of (kept_of kept r) (get_or given i d) r) is)
    ∙ ap (λ l. so_far ++ l) (sym (at_drop_more (λ l. unsaid kept l (i + 1)) given i d within))

-- after all rows nothing is left
pub unsaid_past : (kept given : List (Option Given)) (i row : ℕ) (so_far : List Said) → length given ≤ i → so_far ++ unsaid kept (drop i given) row ≡ so_far
unfolding unsaid
unsaid_past kept given i row so_far past = ap (λ (l : List (Option Given)). so_far ++ unsaid kept l row) (drop_all i given past) ∙ append-nil so_far

-- one more for a row that keeps none
one_more : (kept : List (Option Given)) (n : ℕ) → 0 < n → (kept ++ None ∷ []) ++ replicate (n - 1) None ≡ kept ++ replicate n None
one_more kept zero some = absurd (omega (arith, some))
one_more kept (suc n) some =
    let one_less : suc n - 1 ≡ n = omega arith in
    ap (λ k. (kept ++ None ∷ []) ++ replicate k None) one_less ∙ append_assoc kept (None ∷ []) (replicate n None)

-- all that are said, from one on
pub said_on : (kept : List (Option Given)) (said : List Said) (i : ℕ) (d : Said) → i < length said → with_all kept (drop i said) ≡ with_all (with_said kept (get_or said i d)) (drop (i + 1) said)
unfolding with_all
said_on kept said i d within = at_drop_more (with_all kept) said i d within

pub said_past : (kept : List (Option Given)) (said : List Said) (i : ℕ) → length said ≤ i → with_all kept (drop i said) ≡ kept
unfolding with_all
said_past kept said i past = ap (with_all kept) (drop_all i said past)

-- the list, lengthened further
pub extended_on : (kept more : List (Option Given)) (rows : ℕ) → more ≡ kept ++ None ∷ [] → length kept < rows → extended more rows ≡ extended kept rows
extended_on kept more rows is short =
    let left : rows - length (kept ++ None ∷ []) ≡ (rows - length kept) - 1 = omega (arith, length_push {X = Option Given} kept None) in
    ap (λ l. extended l rows) is ∙ ap (λ n. (kept ++ None ∷ []) ++ replicate n None) left ∙ one_more kept (rows - length kept) (omega (arith, short))

-- and once it is long enough
pub extended_past : (kept : List (Option Given)) (rows : ℕ) → rows ≤ length kept → extended kept rows ≡ kept
extended_past kept rows long =
    let none_left : rows - length kept ≡ 0 = omega (arith, long) in
    ap (λ n. kept ++ replicate n None) none_left ∙ append-nil kept

-- what keeps a number has it
alike_same : (counted other : Counted) → are_alike counted other ≡ true → counted ≡ other
alike_same Deadline Deadline is = refl
alike_same Deadline Motion is = cc is
alike_same Motion Deadline is = cc is
alike_same Motion Motion is = refl

equal : (m n : ℕ) → nat_eq m n ≡ true → m ≡ n
equal m n is = grind (arith, nat_tests)

same_given : (own given : Given) → own.case ≡ given.case → own.counted ≡ given.counted → own.number ≡ given.number → own ≡ given
same_given own given case counted number =
    let with_case : ℕ → Given = λ n. record { case = n; counted = own.counted; number = own.number } in
    let with_counted : Counted → Given = λ k. record { case = given.case; counted = k; number = own.number } in
    let with_number : ℕ → Given = λ n. record { case = given.case; counted = given.counted; number = n } in
    ap with_case case ∙ ap with_counted counted ∙ ap with_number number

kept_is : (own given : Given) → keeps (Some own) given ≡ true → own ≡ given
kept_is own given is = by (nat_eq own.case given.case) (are_alike own.counted given.counted) (nat_eq own.number given.number) refl refl refl is
  where
    by : (p q r : Bool) → nat_eq own.case given.case ≡ p → are_alike own.counted given.counted ≡ q → nat_eq own.number given.number ≡ r → (p && q && r) ≡ true → own ≡ given
    by true true true case counted number is = same_given own given (equal own.case given.case case) (alike_same own.counted given.counted counted) (equal own.number given.number number)
    by true true false case counted number is = cc is
    by true false r case counted number is = cc is
    by false q r case counted number is = cc is

-- what is said of one row
set_one : (front rest : List (Option Given)) (own : Option Given) (given : Given) (row : ℕ) → row ≡ length front + 1 → (more : List Said)
    → with_all (front ++ own ∷ rest) (record { row = row; given = given } ∷ more) ≡ with_all (front ++ Some given ∷ rest) more
unfolding with_all
set_one front rest own given row at more = ap (λ l. with_all l more) (set_at front own rest (Some given) (row - 1) (omega (arith, at)))

one_row : (front rest : List (Option Given)) (own given : Option Given) (row : ℕ) → row ≡ length front + 1 → ((g : Given) → own ≡ Some g → given ≡ None → ⊥) → (more : List Said)
    → with_all (front ++ own ∷ rest) (said_of own given row ++ more) ≡ with_all (front ++ given ∷ rest) more
one_row front rest None None row at gave more = refl
one_row front rest (Some own) None row at gave more = absurd (gave own refl refl)
one_row front rest None (Some given) row at gave more = set_one front rest None given row at more
one_row front rest (Some own) (Some given) row at gave more = by (keeps (Some own) given) refl
  where
    by : (t : Bool) → keeps (Some own) given ≡ t → with_all (front ++ Some own ∷ rest) (cond t [] (record { row = row; given = given } ∷ []) ++ more) ≡ with_all (front ++ Some given ∷ rest) more
    by true is = ap (λ (g : Given). with_all (front ++ Some g ∷ rest) more) (kept_is own given is)
    by false is = set_one front rest (Some own) given row at more

-- and of all rows from one on
all_rows : (front rest given kept : List (Option Given)) (row : ℕ) → row ≡ length front + 1 → ((i : ℕ) → kept_of kept (row + i) ≡ get_or rest i None) → length rest ≡ length given
    → ((i : ℕ) (own : Given) → get_or rest i None ≡ Some own → get_or given i None ≡ None → ⊥)
    → with_all (front ++ rest) (unsaid kept given row) ≡ front ++ given
unfolding unsaid with_all
all_rows front [] [] kept row at own long gave = refl
all_rows front (r ∷ rest) [] kept row at own long gave = absurd (omega (arith, long))
all_rows front [] (g ∷ given) kept row at own long gave = absurd (omega (arith, long))
all_rows front (r ∷ rest) (g ∷ given) kept row at own long gave =
    let here : row ≡ row + 0 = omega arith in
    let first : kept_of kept row ≡ r = ap (kept_of kept) here ∙ own 0 in
    let next : row + 1 ≡ length (front ++ g ∷ []) + 1 = omega (arith, at, length_push front g) in
    let shifted : (i : ℕ) → row + 1 + i ≡ row + suc i = λ i. omega arith in
    let further = all_rows (front ++ g ∷ []) rest given kept (row + 1) next (λ i. ap (kept_of kept) (shifted i) ∙ own (suc i)) (omega (arith, long)) (λ i. gave (suc i)) in
    ap (λ o. with_all (front ++ r ∷ rest) (said_of o g row ++ unsaid kept given (row + 1))) first
    ∙ one_row front rest r g row at (gave 0) (unsaid kept given (row + 1))
    ∙ ap (λ l. with_all l (unsaid kept given (row + 1))) (sym (append_assoc front (g ∷ []) rest))
    ∙ further
    ∙ append_assoc front (g ∷ []) given

-- rows after those that keep some keep none
abbrev nones : ℕ → List (Option Given)
nones n = replicate n None

none_among : (n i : ℕ) → get_or (nones n) i None ≡ None
none_among zero zero = refl
none_among zero (suc i) = refl
none_among (suc n) zero = refl
none_among (suc n) (suc i) = none_among n i

none_after : (kept : List (Option Given)) (n i : ℕ) → get_or (kept ++ nones n) i None ≡ get_or kept i None
none_after [] n zero = none_among n zero
none_after [] n (suc i) = none_among n (suc i)
none_after (k ∷ kept) n zero = refl
none_after (k ∷ kept) n (suc i) = none_after kept n i

-- the law
pub said_is_kept : WhatIsSaidIsKept
unfolding kept_with
said_is_kept kept given short gave =
    let left = length given - length kept in
    let place : (i : ℕ) → 1 + i - 1 ≡ i = λ i. omega arith in
    let own : (i : ℕ) → kept_of kept (1 + i) ≡ get_or (extended kept (length given)) i None = λ i. ap (λ n. get_or kept n None) (place i) ∙ sym (none_after kept left i) in
    let more : length (nones left) ≡ left = length-replicate left None in
    let long : length (extended kept (length given)) ≡ length given = omega (arith, short, length-append kept (nones left), more) in
    all_rows [] (extended kept (length given)) given kept 1 (omega arith) own long (λ i g keeps_one none. gave (1 + i) g (own i ∙ keeps_one) (ap (λ n. get_or given n None) (place i) ∙ none))
