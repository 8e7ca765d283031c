-- Entries as far as there were then.
use Rattle.std.proofs.Common.{◌≡◌, ℕ, List, sym}
use Rattle.std.specs.Prelude.{take}
use Rattle.std.specs.declared.alloc.Global.{Global}
use Rattle.std.specs.declared.vec.Vec.{Vec}
use Rattle.std.proofs.lemmas.List.{take-map}
use Rattle.desk_journal.specs.Words.{batch_of}

-- the first entries of a batch are those of its first entries
pub batch_take : (n : ℕ) (batch : List (Vec ℕ Global)) → batch_of (take n batch) ≡ take n (batch_of batch)
batch_take n batch = sym (take-map (λ v. v.items) n batch)
