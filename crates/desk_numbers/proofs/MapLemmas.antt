-- A list whose elements are changed in place, one after another.
use Rattle.std.proofs.Common.{ℕ, List, ◌++◌, drop, map, take}

-- the first of these are changed, and the others are to be
abbrev pub changed_up_to : {X : Type 0} → (X → X) → List X → ℕ → List X
changed_up_to f xs i = take i xs ++ map f (drop i xs)
