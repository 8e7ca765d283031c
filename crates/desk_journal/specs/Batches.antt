-- Entries that are appended together.
use Rattle.std.specs.Prelude.{◌≤◌, ℕ, List, ◌++◌, map, Vec}
use Rattle.std.specs.declared.alloc.Global.{Global}
use Rattle.desk_journal.specs.Frames.{Frame, frame_of, framed, last_time, stamps_of}
use Rattle.desk_journal.specs.Stamps.{IsInOrder, IsStamp, StampView}

-- the entries of a batch
abbrev pub batch_of : List (Vec ℕ Global) → List (List ℕ)
batch_of batch = map (λ v. v.items) batch

-- their frames, where this number of entries is durable before them, and they are entered with this stamp
abbrev pub frames_of : ℕ → StampView → List (Vec ℕ Global) → List Frame
frames_of durable stamp batch = map (λ v. framed durable stamp v.items) batch

-- the same, where the bytes before each entry are these
abbrev pub frames_after : ℕ → List ℕ → List (Vec ℕ Global) → List Frame
frames_after durable front batch = map (λ v. frame_of durable (front ++ v.items)) batch

-- Where the times of entries never go back, and a batch gets a stamp that isn't before the last of them, the times of all of them
-- never go back.
abbrev pub TimesNeverGoBack : Type 0
TimesNeverGoBack = (fs : List Frame) (durable : ℕ) (stamp : StampView) (batch : List (Vec ℕ Global)) → IsStamp stamp → last_time fs ≤ stamp.time → IsInOrder 0 (stamps_of fs)
    → IsInOrder 0 (stamps_of (fs ++ frames_of durable stamp batch))
