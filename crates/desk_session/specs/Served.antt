-- What a session leaves on its disk, and what it has written.
use Rattle.std.specs.Prelude.{◌≤◌, ◌⊎◌, ℕ, List, ◌++◌, Option, take}
use Rattle.std.specs.Io.KnownBytes.{Appends, Consumes}
use Rattle.desk_journal.specs.Words.{StandsFor}
use Rattle.program_streams.specs.Words.{AppendsFront}
use Rattle.desk_session.specs.Taken.{left_by, told_to}

-- all of these lines are kept and answered
pub record IsServed (leaves : List (List ℕ) → List ℕ → List (List ℕ)) (answers : List (List ℕ) → List ℕ → List ℕ) (Keeps Stands : List (List ℕ) → Type 0) (kept lines : List (List ℕ)) (before after : Option (List ℕ)) : Type 0 where
  pub keeps : Keeps (kept ++ left_by leaves kept lines)
  pub stands : Stands (kept ++ left_by leaves kept lines)
  pub told : Appends before after (told_to leaves answers kept lines)

-- What is so of a session that has read these lines, however it ends: what it wrote is a beginning of the answers to the
-- first `told` of them, and where no write has failed it is all of them; and whatever a crash leaves stands for the entries
-- that the first n of them left, n at least `told`. So what the session still owes are the answers to the lines after the
-- first `told` that are kept, and where a write has failed also the rest of the text that it broke off.
pub record IsPromised (leaves : List (List ℕ) → List ℕ → List (List ℕ)) (answers : List (List ℕ) → List ℕ → List ℕ) (kept lines : List (List ℕ)) (before after : Option (List ℕ)) (HasWritten : Type 0) (MayLeave : List ℕ → Type 0) : Type 0 where
  pub told : ℕ
  pub written : AppendsFront before after (told_to leaves answers kept (take told lines))
  pub whole : HasWritten → Appends before after (told_to leaves answers kept (take told lines))
  pub lasts : (file : List ℕ) → MayLeave file → (n : ℕ) × (told ≤ n) × StandsFor file (kept ++ left_by leaves kept (take n lines))

-- whatever a crash leaves stands for the entries before, or for these and what all of the lines leave
abbrev pub IsAllOrNone : (leaves : List (List ℕ) → List ℕ → List (List ℕ)) → (kept lines : List (List ℕ)) → (MayLeave : List ℕ → Type 0) → Type 0
IsAllOrNone leaves kept lines MayLeave = (file : List ℕ) → MayLeave file → StandsFor file kept ⊎ StandsFor file (kept ++ left_by leaves kept lines)

-- some bytes were read, and this is so of them
abbrev pub AfterBytes : (before after : Option (List ℕ)) → (List ℕ → Type 0) → Type 0
AfterBytes before after IsSo = (bytes : List ℕ) × Consumes before after bytes × IsSo bytes
