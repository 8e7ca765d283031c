-- The line of a case that is open in one docket alone, or was filed on another day.
use Rattle.std.specs.Prelude.{ℕ, ℤ, List, [], ◌∷◌, ◌++◌, Option, Some, None, codes, if◌then◌else◌}
use Rattle.std.specs.Ordering.{int_eq}
use Rattle.case_numbers.specs.Words.{case_text}
use Rattle.case_numbers.specs.declared.names.NamedCase.{NamedCase}
use Rattle.court_clock.specs.Words.{day_text}

-- `  case 7: filed 2025-08-04, now not open; its number is given to no other case`
abbrev pub closed_line : List NamedCase → (case : ℕ) → (was : ℤ) → List ℕ
closed_line named case was = codes "  case " ++ case_text named case ++ codes ": filed " ++ day_text was ++ codes ", now not open; its number is given to no other case\n"

-- `  case 7: not open, now filed 2025-08-04`
unfoldable pub opened_words : (is : ℤ) → List ℕ
opened_words is = codes ": not open, now filed " ++ day_text is ++ codes "\n"

abbrev pub opened_line : List NamedCase → (case : ℕ) → (is : ℤ) → List ℕ
opened_line named case is = codes "  case " ++ case_text named case ++ opened_words is

-- `  case 7: filed 2025-08-04, now filed 2025-08-05`; nothing where both days are one
abbrev pub filed_again_line : List NamedCase → (case : ℕ) → (was is : ℤ) → List ℕ
filed_again_line named case was is =
    if int_eq was is then [] else codes "  case " ++ case_text named case ++ codes ": filed " ++ day_text was ++ codes ", now filed " ++ day_text is ++ 10 ∷ []

-- the line of a case that was filed on the first day and now is on the second, if each is open, where cases had the first names and
-- have the others
abbrev pub filed_line : (had has : List NamedCase) → (case : ℕ) → (was is : Option ℤ) → List ℕ
filed_line had has case None None = []
filed_line had has case (Some was) None = closed_line had case was
filed_line had has case None (Some is) = opened_line has case is
filed_line had has case (Some was) (Some is) = filed_again_line has case was is
