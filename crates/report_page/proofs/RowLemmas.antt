-- Rows of a table, one after another.
use Rattle.std.proofs.Common.{◌≡◌, ◌<◌, ◌≤◌, ◌+◌, ◌∙◌, ℕ, ℤ, List, ◌++◌, Option, Some, length, get_or, drop, append_assoc, append-nil, sym, ap}
use Rattle.std.proofs.lemmas.List.{at_drop_more, at_drop_all}
use Rattle.report_page.specs.Tables.{rows_by_day}

-- one row more
pub rows_more : {X : Type 0} (day_of : X → ℤ) (head : Option ℤ → ℤ → List ℕ) (row : X → List ℕ) (before : Option ℤ) (xs : List X) (i : ℕ) (x : X) (old between new whole : List ℕ)
    → i < length xs → x ≡ get_or xs i x → between ≡ old ++ head before (day_of x) → new ≡ between ++ row x → old ++ rows_by_day day_of head row before (drop i xs) ≡ whole
    → new ++ rows_by_day day_of head row (Some (day_of x)) (drop (i + 1) xs) ≡ whole
unfolding rows_by_day
rows_more day_of head row before xs i x old between new whole within is first second all =
    let day = head before (day_of x) in
    let later = rows_by_day day_of head row (Some (day_of x)) (drop (i + 1) xs) in
    let step : rows_by_day day_of head row before (drop i xs) ≡ day ++ row x ++ later =
    at_drop_more (rows_by_day day_of head row before) xs i x within ∙ ap (λ y. head before (day_of y) ++ row y ++ rows_by_day day_of head row (Some (day_of y)) (drop (i + 1) xs)) (sym is) in
    ap (λ t. t ++ later) second ∙ ap (λ t. t ++ row x ++ later) first
    ∙ append_assoc (old ++ day) (row x) later ∙ append_assoc old day (row x ++ later) ∙ ap (λ s. old ++ s) (sym (append_assoc day (row x) later) ∙ sym step) ∙ all

-- no row more
pub all_rows : {X : Type 0} (day_of : X → ℤ) (head : Option ℤ → ℤ → List ℕ) (row : X → List ℕ) (before : Option ℤ) (xs : List X) (i : ℕ) (old whole : List ℕ)
    → length xs ≤ i → old ++ rows_by_day day_of head row before (drop i xs) ≡ whole → old ≡ whole
unfolding rows_by_day
all_rows day_of head row before xs i old whole past all =
    sym (append-nil old) ∙ ap (λ t. old ++ t) (sym (at_drop_all (rows_by_day day_of head row before) xs i past)) ∙ all
