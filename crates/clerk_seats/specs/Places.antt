-- The places of a clerk's entries in a history.
use Rattle.std.specs.Prelude.{◌≡◌, ℕ, ◌+◌, ◌==◌, if◌then◌else◌, List, [], ◌∷◌, ◌⊎◌, ⊤}
use Rattle.versioned_steps.specs.declared.entry.Entry.{Entry}

-- the places of this clerk's entries, rising, where `before` entries come before these; the first place of all is 1
abbrev pub places_after : {Command Answer : Type 0} → (before : ℕ) → (clerk : ℕ) → List (Entry Command Answer) → List ℕ
places_after before clerk [] = []
places_after before clerk (e ∷ es) =
    if e.clerk == clerk then (before + 1) ∷ places_after (before + 1) clerk es else places_after (before + 1) clerk es

-- in a whole history
abbrev pub places_of : {Command Answer : Type 0} → (clerk : ℕ) → List (Entry Command Answer) → List ℕ
places_of clerk history = places_after 0 clerk history

-- the first list has some of the places of the second, in the same order
abbrev pub Within : List ℕ → List ℕ → Type 0
Within [] places = ⊤
Within (m ∷ ms) [] = ⊥
Within (m ∷ ms) (p ∷ ps) = (m ≡ p) × Within ms ps ⊎ Within (m ∷ ms) ps
