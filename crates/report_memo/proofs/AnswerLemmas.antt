-- What is found, said of less.
use Rattle.std.proofs.Common.{ℕ, List, string_bytes}
use Rattle.program_runs.specs.declared.report.Finding.{Finding}
use Rattle.program_runs.specs.declared.report.Finding.TheVariants.{Missing, Text}
use Rattle.program_runs.specs.Words.{IsFinding}

-- where each text, and each line that says what isn't there, is also of another kind
pub finding_weaker : {T : Type 0} (bytes : T → List ℕ) (IsText IsOtherText IsLine IsOtherLine : List ℕ → Type 0) → ((t : List ℕ) → IsText t → IsOtherText t) → ((t : List ℕ) → IsLine t → IsOtherLine t) → (found : Finding T) → IsFinding bytes IsText IsLine found → IsFinding bytes IsOtherText IsOtherLine found
finding_weaker bytes IsText IsOtherText IsLine IsOtherLine text line (Text t) is = text (bytes t) is
finding_weaker bytes IsText IsOtherText IsLine IsOtherLine text line (Missing l) is = line (string_bytes l) is
