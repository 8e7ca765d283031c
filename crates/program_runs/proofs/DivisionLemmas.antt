-- What a division does at one place of the input.
use Rattle.std.proofs.Common.{◌≡◌, ◌∙◌, ℕ, ◌+◌, ◌<◌, ◌==◌, Bool, List, [], ◌∷◌, ◌++◌, Some, None, length, get_or, take, drop, refl, sym, ap, append_assoc}
use Rattle.std.proofs.lemmas.List.{at_drop_more, take_more}
use Rattle.program_runs.specs.Division.{divided_from, divided_at, behind_divider}

-- the division of what is left at a byte's place
divided-drop : (begins_line : Bool) (input : List ℕ) (i : ℕ) → i < length input
    → divided_from begins_line (drop i input) ≡ divided_at (behind_divider begins_line (drop i input)) (get_or input i 0) (divided_from (get_or input i 0 == 10) (drop (i + 1) input))
unfolding divided_from
divided-drop begins_line input i within =
    at_drop_more (divided_from begins_line) input i 0 within
    ∙ ap (λ m. divided_at m (get_or input i 0) (divided_from (get_or input i 0 == 10) (drop (i + 1) input))) (sym (at_drop_more (behind_divider begins_line) input i 0 within))

-- at the divider
pub divided-here : (begins_line : Bool) (input : List ℕ) (i : ℕ) (rows : List ℕ) → i < length input → behind_divider begins_line (drop i input) ≡ Some rows
    → divided_from begins_line (drop i input) ≡ ([], rows)
divided-here begins_line input i rows within found = rw found at (divided-drop begins_line input i within)

-- at any other byte
pub divided-other : (begins_line : Bool) (input : List ℕ) (i : ℕ) → i < length input → behind_divider begins_line (drop i input) ≡ None
    → ((take i input ++ (divided_from begins_line (drop i input)).0) ≡ take (i + 1) input ++ (divided_from (get_or input i 0 == 10) (drop (i + 1) input)).0)
    × ((divided_from begins_line (drop i input)).1 ≡ (divided_from (get_or input i 0 == 10) (drop (i + 1) input)).1)
divided-other begins_line input i within none =
    let later = divided_from (get_or input i 0 == 10) (drop (i + 1) input) in
    let step : divided_from begins_line (drop i input) ≡ (get_or input i 0 ∷ later.0, later.1) = rw none at (divided-drop begins_line input i within) in
    rw (step, take_more input i 0 within) (sym (append_assoc (take i input) (get_or input i 0 ∷ []) later.0), refl)

-- at the end
pub divided-nil : (begins_line : Bool) → divided_from begins_line [] ≡ ([], [])
unfolding divided_from
divided-nil begins_line = refl
