-- How many bytes are copied.
use Rattle.std.proofs.Common.{◌≡◌, ◌≤◌, ℕ, List, length, sym}
use Rattle.std.specs.Prelude.{take}
use Rattle.std.proofs.lemmas.List.{length-take-le}

-- as many as are taken, where there is room for them
pub taken : (n : ℕ) (bytes : List ℕ) → n ≤ length bytes → n ≡ length (take n bytes)
taken n bytes within = sym (length-take-le n bytes within)
