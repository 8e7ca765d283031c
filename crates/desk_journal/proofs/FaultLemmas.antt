-- How many bytes frames take.
use Rattle.std.proofs.Common.{◌≡◌, inr, ℕ, ◌≤◌, ◌^◌, List, [], ◌∷◌, ◌++◌, length, Vec, refl, ap, arith, length-append, length-drop}
use Rattle.std.specs.Prelude.{All}
use Rattle.std.specs.declared.alloc.Global.{Global}
use Rattle.std.proofs.lemmas.List.Elements.{All-head, All-tail}
use Rattle.desk_journal.specs.Frames.{Frame, IsFrame, checksum, first_checksum, packed, frames, entries_of}
use Rattle.desk_journal.specs.Batches.{frames_of}
use Rattle.desk_journal.specs.Faults.{taken, IsTooMuch}
use Rattle.desk_journal.specs.Stamps.{StampView, stamp_size}
use Rattle.desk_journal.proofs.FrameLemmas.{laid}
use Rattle.desk_journal.proofs.KeptLemmas.{entries_more}

-- each takes at most what its entry and the longest stamp take
pub length-frames : (previous : List ℕ) (fs : List Frame) → All IsFrame fs → length (frames previous fs) ≤ taken (entries_of fs)
length-frames previous [] whole = omega arith
length-frames previous (f ∷ fs) whole =
    omega (
      arith,
      length-append (packed previous f) (frames (checksum previous f) fs),
      length-frames (checksum previous f) fs (All-tail IsFrame f fs whole),
      (laid previous f (frames (checksum previous f) fs) (packed previous f ++ frames (checksum previous f) fs) (All-head IsFrame f fs whole).sized refl).long,
      (All-head IsFrame f fs whole).stamped.1,
      length-drop (stamp_size f.content) f.content,
    )

-- there is no room for the bytes
pub no_number : (fs : List Frame) (n : ℕ) (stamp : StampView) (batch : List (Vec ℕ Global)) (size : ℕ) → All IsFrame (fs ++ frames_of n stamp batch) → length (frames first_checksum (fs ++ frames_of n stamp batch)) ≡ size → 2 ^ 64 ≤ size
    → IsTooMuch (entries_of fs) batch
no_number fs n stamp batch size whole is large =
    inr (inr (omega (arith, large, is, length-frames first_checksum (fs ++ frames_of n stamp batch) whole, ap taken (entries_more fs n stamp batch (entries_of fs) refl))))
