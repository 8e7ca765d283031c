-- Texts by the number of their case, with one more.
use Rattle.std.proofs.Common.{◌≡◌, ◌∙◌, ◌+◌, ◌-◌, ◌<◌, ℕ, zero, suc, Bool, true, cond, List, [], ◌∷◌, ◌++◌, Option, Some, None, length, refl, ap, append_assoc, arith}
use Rattle.std.specs.Prelude.{nat_eq, replicate, slice_index_or}
use Rattle.std.proofs.lemmas.Bool.Decides.{nat_tests}
use Rattle.std.proofs.lemmas.List.{get_or-set_other, get_or-set_same, length-append, length-replicate, length_push}
use Rattle.std.proofs.lemmas.List.Sums.{fold-append}
use Rattle.docket_rows.specs.declared.command.Counted.{Counted}
use Rattle.docket_rows.specs.declared.command.Counted.TheVariants.{Deadline, Motion}
use Rattle.docket_rows.specs.Words.{are_alike}
use Rattle.desk_numbers.specs.Called.{CalledView, TextsView, TheLastTextCounts, lengthened, same_subject, text_among, text_then, with_called}

-- an empty list more, while one is wanted
one_more : (texts : TextsView) (n : ℕ) → 0 < n → (texts ++ [] ∷ []) ++ replicate (n - 1) [] ≡ texts ++ replicate n []
one_more texts zero some = absurd (omega (arith, some))
one_more texts (suc n) some =
    let one_less : suc n - 1 ≡ n = omega arith in
    ap (λ (k : ℕ). (texts ++ [] ∷ []) ++ replicate k []) one_less ∙ append_assoc texts ([] ∷ []) (replicate n [])

-- the lists, lengthened further
pub lengthened_on : (texts more : TextsView) (count : ℕ) → more ≡ texts ++ [] ∷ [] → length texts < count → lengthened more count ≡ lengthened texts count
lengthened_on texts more count is short =
    let left : count - length (texts ++ [] ∷ []) ≡ (count - length texts) - 1 = omega (arith, length_push {X = List CalledView} texts []) in
    ap (λ (l : TextsView). lengthened l count) is ∙ ap (λ (n : ℕ). (texts ++ [] ∷ []) ++ replicate n []) left ∙ one_more texts (count - length texts) (omega (arith, short))

-- lists that are empty change nothing
longer_at : (texts : TextsView) (n i : ℕ) → slice_index_or (texts ++ replicate n []) i [] ≡ slice_index_or texts i []
longer_at [] zero i = refl
longer_at [] (suc n) zero = refl
longer_at [] (suc n) (suc i) = longer_at [] n i
longer_at (t ∷ texts) n zero = refl
longer_at (t ∷ texts) n (suc i) = longer_at texts n i

-- there is a list for the case
within : (texts : TextsView) (case : ℕ) → case < length (lengthened texts (case + 1))
within texts case =
    let none : List CalledView = [] in
    omega (arith, length-append texts (replicate ((case + 1) - length texts) none), length-replicate ((case + 1) - length texts) none)

-- the list of the case with one more, and that of another case
own_list : (texts : TextsView) (c : CalledView) → slice_index_or (with_called texts c) c.case [] ≡ slice_index_or texts c.case [] ++ c ∷ []
unfolding with_called
own_list texts c =
    let long : TextsView = lengthened texts (c.case + 1) in
    get_or-set_same long c.case (slice_index_or long c.case [] ++ c ∷ []) [] (within texts c.case)
    ∙ ap (λ (l : List CalledView). l ++ c ∷ []) (longer_at texts ((c.case + 1) - length texts) c.case)

other_list : (texts : TextsView) (c : CalledView) (case : ℕ) → (case ≡ c.case → ⊥) → slice_index_or (with_called texts c) case [] ≡ slice_index_or texts case []
unfolding with_called
other_list texts c case differ =
    let long : TextsView = lengthened texts (c.case + 1) in
    get_or-set_other long c.case case (slice_index_or long c.case [] ++ c ∷ []) [] differ
    ∙ longer_at texts ((c.case + 1) - length texts) case

-- what is said last
one_later : (texts : List CalledView) (c : CalledView) (subject : Option (Counted × ℕ)) → text_among (texts ++ c ∷ []) subject ≡ text_then subject (text_among texts subject) c
unfolding text_among
one_later texts c subject = fold-append (text_then subject) [] texts (c ∷ [])

alike_itself : (counted : Counted) → are_alike counted counted ≡ true
alike_itself Deadline = refl
alike_itself Motion = refl

same_number : (n : ℕ) → nat_eq n n ≡ true
same_number n = grind (arith, nat_tests)

subject_itself : (subject : Option (Counted × ℕ)) → same_subject subject subject ≡ true
subject_itself None = refl
subject_itself (Some one) = rw (alike_itself one.0, same_number one.1) refl

pub the_last_text_counts_lem : TheLastTextCounts
the_last_text_counts_lem = record {
  last = λ texts c.
      ap (λ (l : List CalledView). text_among l c.subject) (own_list texts c)
      ∙ one_later (slice_index_or texts c.case []) c c.subject
      ∙ ap (λ (b : Bool). cond b c.text (text_among (slice_index_or texts c.case []) c.subject)) (subject_itself c.subject);
  others = λ texts c subject other.
      ap (λ (l : List CalledView). text_among l subject) (own_list texts c)
      ∙ one_later (slice_index_or texts c.case []) c subject
      ∙ ap (λ (b : Bool). cond b c.text (text_among (slice_index_or texts c.case []) subject)) other;
  other_cases = λ texts c case subject differ. ap (λ (l : List CalledView). text_among l subject) (other_list texts c case differ);
}
