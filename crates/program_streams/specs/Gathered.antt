-- Bytes that are gathered before they are written.
use Rattle.std.specs.Prelude.{◌≡◌, ◌++◌, ℕ, true, false, List, Option}
use Rattle.std.specs.Io.KnownBytes.{Appends}
use Rattle.program_streams.specs.declared.watched.Watched.{Watched}
use Rattle.program_streams.specs.Limits.{AppendsFront}
use Rattle.program_streams.specs.Watched.{watched, has_failed, was_called_again}

-- Of a text that was handed over piece by piece the writer was given a beginning, and the rest waits. Where a write failed it
-- took no more than a beginning, and it wasn't called again.
pub record IsGathered {W : Type 0} (contents : W → Option (List ℕ)) (old new : Watched W) (waiting text : List ℕ) : Type 0 where
  pub working : has_failed new ≡ false → (front : List ℕ) × Appends (contents (watched old)) (contents (watched new)) front × (text ≡ front ++ waiting)
  pub failing : has_failed new ≡ true → AppendsFront (contents (watched old)) (contents (watched new)) text
  pub again : was_called_again new ≡ was_called_again old

-- one piece more is handed over, whatever was before it
abbrev pub Adds : {W : Type 0} → (contents : W → Option (List ℕ)) → (writer : Watched W) → (waiting : List ℕ) → (writer_after : Watched W) → (waiting_after piece : List ℕ) → Type 0
Adds {W} contents writer waiting writer_after waiting_after piece =
    (old : Watched W) (text : List ℕ) → IsGathered contents old writer waiting text → IsGathered contents old writer_after waiting_after (text ++ piece)
