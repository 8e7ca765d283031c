-- The line of a case that is closed in one docket alone, or was closed otherwise.
use Rattle.std.specs.Prelude.{ℕ, List, [], ◌∷◌, ◌++◌, Option, Some, None, codes, if◌then◌else◌}
use Rattle.std.specs.Str.{bytes_eq}
use Rattle.case_numbers.specs.Words.{case_text}
use Rattle.case_numbers.specs.declared.names.NamedCase.{NamedCase}
use Rattle.court_clock.specs.Words.{day_text}
use Rattle.docket_rows.specs.declared.fact.Closure.{Closure}
use Rattle.docket_rows.specs.declared.view.View.{View}
use Rattle.docket_rows.specs.declared.view.View.TheVariants as view
use Rattle.docket_rows.specs.Words.{closing_word}

-- how a case was closed, or that it isn't: `closed 2025-11-03 settled`
abbrev pub closing_told : Option Closure → List ℕ
closing_told None = codes "not closed"
closing_told (Some c) = codes "closed " ++ day_text c.dated ++ codes " " ++ closing_word c.why

-- `  case 7: not closed, now closed 2025-11-03 settled`; nothing where both are told alike
abbrev pub told_line : List NamedCase → (case : ℕ) → (was is : List ℕ) → List ℕ
told_line named case was is =
    if bytes_eq was is then [] else codes "  case " ++ case_text named case ++ codes ": " ++ was ++ codes ", now " ++ is ++ 10 ∷ []

-- the line of a case that is closed otherwise by the second of two sheets than by the first, where it is open by both
abbrev pub closing_shift : List NamedCase → (case : ℕ) → (was is : View) → List ℕ
closing_shift named case (view.Sheet was) (view.Sheet is) = told_line named case (closing_told was.closed) (closing_told is.closed)
closing_shift named case was is = []
