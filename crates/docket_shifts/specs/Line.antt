-- The line of what is shown otherwise.
use Rattle.std.specs.Prelude.{ℕ, List, [], ◌∷◌, ◌++◌, codes, if◌then◌else◌}
use Rattle.std.specs.Fmt.{decimal}
use Rattle.std.specs.Str.{bytes_eq}
use Rattle.case_numbers.specs.Words.{case_text}
use Rattle.case_numbers.specs.declared.names.NamedCase.{NamedCase}
use Rattle.docket_rows.specs.declared.command.Counted.{Counted}
use Rattle.docket_rows.specs.declared.command.Counted.TheVariants.{Deadline, Motion}

abbrev pub counted_word : Counted → List ℕ
counted_word Deadline = codes "deadline"
counted_word Motion = codes "motion"

-- `case 1:25-cv-01234-ABC deadline 2`
abbrev pub subject_text : List NamedCase → (case : ℕ) → Counted → (number : ℕ) → List ℕ
subject_text named case counted number = codes "case " ++ case_text named case ++ codes " " ++ counted_word counted ++ codes " " ++ decimal number

-- `  case 1:25-cv-01234-ABC deadline 2: last 2025-09-02, now last 2025-09-03`; nothing where both are shown alike
abbrev pub shift_line : List NamedCase → (case : ℕ) → Counted → (number : ℕ) → (was is : List ℕ) → List ℕ
shift_line named case counted number was is =
    if bytes_eq was is then [] else codes "  " ++ subject_text named case counted number ++ codes ": " ++ was ++ codes ", now " ++ is ++ 10 ∷ []
