-- Values after values, and items with their numbers.
use Rattle.std.proofs.Common.{◌≡◌, ◌∙◌, ◌+◌, ◌<◌, ◌≤◌, ℕ, List, [], ◌∷◌, ◌++◌, length, get_or, drop, refl, sym, ap, append_assoc, append-nil}
use Rattle.std.proofs.lemmas.List.{at_drop_more, at_drop_all}
use Rattle.std.specs.List.{flat_map}
use Rattle.report_sql.specs.Rows.{SqlValue, next_value, numbered}

-- some values, and then others
values_append : (us vs : List SqlValue) → flat_map next_value (us ++ vs) ≡ flat_map next_value us ++ flat_map next_value vs
values_append [] vs = refl
values_append (u ∷ us) vs =
    ap (λ t. next_value u ++ t) (values_append us vs) ∙ sym (append_assoc (next_value u) (flat_map next_value us) (flat_map next_value vs))

pub more_values : (us vs : List SqlValue) (before : List ℕ) → (before ++ flat_map next_value us) ++ flat_map next_value vs ≡ before ++ flat_map next_value (us ++ vs)
more_values us vs before = append_assoc before (flat_map next_value us) (flat_map next_value vs) ∙ ap (λ t. before ++ t) (sym (values_append us vs))

-- once one more item is written, what was written and what is left are still all
pub one_numbered : {A : Type 0} (of : ℕ → A → List ℕ) (place : ℕ) (xs : List A) (i : ℕ) (x : A) (before now whole : List ℕ) → i < length xs → now ≡ before ++ of place (get_or xs i x) → before ++ numbered of place (drop i xs) ≡ whole → now ++ numbered of (place + 1) (drop (i + 1) xs) ≡ whole
unfolding numbered
one_numbered of place xs i x before now whole within written so_far =
    ap (λ t. t ++ numbered of (place + 1) (drop (i + 1) xs)) written
    ∙ append_assoc before (of place (get_or xs i x)) (numbered of (place + 1) (drop (i + 1) xs))
    ∙ sym (ap (λ t. before ++ t) (at_drop_more (numbered of place) xs i x within))
    ∙ so_far

-- where no item is left, what was written is all
pub all_numbered : {A : Type 0} (of : ℕ → A → List ℕ) (place : ℕ) (xs : List A) (i : ℕ) (before whole : List ℕ) → length xs ≤ i → before ++ numbered of place (drop i xs) ≡ whole → before ≡ whole
unfolding numbered
all_numbered of place xs i before whole past so_far =
    sym (append-nil before) ∙ sym (ap (λ t. before ++ t) (at_drop_all (numbered of place) xs i past)) ∙ so_far
