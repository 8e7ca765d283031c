-- The length of a text that was added after another.
use Rattle.std.proofs.Common.{◌≡◌, ◌-◌, ◌++◌, ℕ, List, length, arith}
use Rattle.std.proofs.lemmas.List.{length-append}

pub length_after : (before added : List ℕ) → length (before ++ added) - length before ≡ length added
length_after before added = rw (length-append before added) (omega arith)
