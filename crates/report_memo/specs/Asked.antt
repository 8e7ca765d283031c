-- What the options ask for.
use Rattle.std.specs.Prelude.{◌≡◌, ◌&&◌, Bool, true, false, ℤ, List, [], ◌∷◌, Option, Some, None, codes, unwrap_or}
use Rattle.std.specs.Option.{option_and_then}
use Rattle.clap.specs.Kinds.{or_else}
use Rattle.clap.specs.Words.{Kinds, Row, Text, first_of}
use Rattle.clap.specs.declared.error.kind.ErrorKind.TheVariants.{MissingRequiredArgument}
use Rattle.office_texts.specs.Names.Words.{case_called}
use Rattle.court_clock.specs.Words.{day_of_text}
use Rattle.court_days.specs.Words.{CourtView}
use Rattle.program_main.specs.Texts.Words.{faults_unless, is_case_taken, is_day_taken, today_by}
use Rattle.report_memo.specs.declared.asked.Asked.{Asked}

-- what the options were given asks for that: the case and the day are those that the texts of their options write; they say nothing
-- of the clock's time, nor whether it is a page
pub record IsAskedBy (given : List Row) (asked : Asked) : Type 0 where
  pub case : asked.case ≡ option_and_then case_called (first_of (codes "case") given)
  pub today : asked.today ≡ option_and_then day_of_text (first_of (codes "today") given)

-- the fault of a day that is given: it counts for a case alone, and its text writes a day
abbrev pub faults_of_day : (today case : Option Text) → Kinds
faults_of_day None case = []
faults_of_day (Some text) None = MissingRequiredArgument ∷ []
faults_of_day (Some text) (Some number) = faults_unless (is_day_taken (Some text))

-- the fault of a text that calls no case, or else of the day
abbrev pub faults_given : List Row → Kinds
faults_given given = or_else (faults_unless (is_case_taken (first_of (codes "case") given))) (faults_of_day (first_of (codes "today") given) (first_of (codes "case") given))

-- a day is given that counts, or none is
abbrev pub day_counts : (today case : Option Text) → Bool
day_counts None case = true
day_counts (Some text) None = false
day_counts (Some text) (Some number) = is_day_taken (Some text)

abbrev pub are_given_taken : List Row → Bool
are_given_taken given = is_case_taken (first_of (codes "case") given) && day_counts (first_of (codes "today") given) (first_of (codes "case") given)

-- the day on which the memo of a folder is made: the one that is asked for, or else the one that the court's clock shows
abbrev pub day_made : CourtView → Asked → ℤ
day_made court asked = unwrap_or asked.today (today_by court.clock asked.clock_time)
