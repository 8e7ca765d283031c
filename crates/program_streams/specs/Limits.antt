-- The limits of an input, and what may be left unread or unwritten.
use Rattle.std.specs.Prelude.{◌≡◌, ◌+◌, ◌≤◌, ◌⊎◌, ℕ, true, false, List, Option}
use Rattle.std.specs.Io.{StartsWith}
use Rattle.std.specs.Io.KnownBytes.{Appends}
use Rattle.program_streams.specs.declared.watched.Watched.{Watched}
use Rattle.program_streams.specs.Watched.{watched, has_failed, has_ended, was_called_again, read_calls, bytes_given, counted}

-- how many bytes of input are taken, and how often it is read from: both are our own choice
abbrev pub most_bytes : ℕ
most_bytes = 16_777_216

abbrev pub most_reads : ℕ
most_reads = 17_000_000

-- no more was read than is taken
pub record IsWithinLimits {R : Type 0} (old new : Watched R) : Type 0 where
  pub bytes : bytes_given new ≤ bytes_given old + most_bytes
  pub calls : read_calls new ≤ read_calls old + most_reads

-- a byte too many came, or the end didn't come within the most reads
abbrev pub IsPastLimits : {R : Type 0} → Watched R → Watched R → Type 0
IsPastLimits old new = (counted (bytes_given old) (most_bytes + 1) ≤ bytes_given new)
    ⊎ ((counted (read_calls old) most_reads ≤ read_calls new) × (has_ended new ≡ false))

-- why the input can't be read to its end
abbrev pub WasCutShort : {R : Type 0} → Watched R → Watched R → Type 0
WasCutShort old new = (has_failed new ≡ true) ⊎ IsPastLimits old new

-- the reader was read to its end, no read failed, and no limit was passed
pub record WasReadWhole {R : Type 0} (old new : Watched R) : Type 0 where
  pub ended : has_ended new ≡ true
  pub worked : has_failed new ≡ false
  pub within : IsWithinLimits old new

-- known bytes grow by a beginning of the text
abbrev pub AppendsFront : Option (List ℕ) → Option (List ℕ) → List ℕ → Type 0
AppendsFront old new text = (front : List ℕ) × Appends old new front × StartsWith text front

-- a writer was given the text: it took all of it or, where a write failed, a beginning, and then it wasn't called again
pub record IsGiven {W : Type 0} (contents : W → Option (List ℕ)) (old new : Watched W) (text : List ℕ) : Type 0 where
  pub whole : has_failed new ≡ false → Appends (contents (watched old)) (contents (watched new)) text
  pub front : has_failed new ≡ true → AppendsFront (contents (watched old)) (contents (watched new)) text
  pub again : was_called_again new ≡ was_called_again old
