-- What the words of the command line ask for.
use Rattle.std.specs.Prelude.{◌≡◌, ◌&&◌, Bool, true, false, List, Option, Some, None, codes, is_some, option_map, string_bytes, if◌then◌else◌}
use Rattle.std.specs.Option.{option_and_then, option_or}
use Rattle.std.specs.Str.{bytes_eq}
use Rattle.clap.specs.Words.{Kinds, Row, Text, first_of, one_of}
use Rattle.office_texts.specs.Names.Words.{case_called}
use Rattle.content_lines.specs.Words.{stamp_of_text}
use Rattle.court_clock.specs.Words.{day_of_text}
use Rattle.program_main.specs.declared.texts.days.DaySaid.{DaySaid}
use Rattle.program_main.specs.declared.texts.days.DaySaid.TheVariants.{After}
use Rattle.program_main.specs.Texts.Words.{day_said, faults_unless, is_case_taken, is_count_taken, is_day_taken, is_said_taken, last_of_days}
use Rattle.report_program.specs.declared.asked.Asked.{Asked}
use Rattle.report_program.specs.declared.asked.Task.{Task}
use Rattle.report_program.specs.declared.asked.Task.TheVariants.{Due, Ics, Json, Page, Pending, Sql, Week}

-- what a subcommand of that name writes
abbrev pub task_of : (name : Text) → Task
task_of name =
    if bytes_eq name (codes "week") then Week
    else if bytes_eq name (codes "page") then Page
    else if bytes_eq name (codes "ics") then Ics
    else if bytes_eq name (codes "json") then Json
    else if bytes_eq name (codes "sql") then Sql
    else if bytes_eq name (codes "pending") then Pending
    else Due

-- whether a flag is given: its text says so, and it isn't where it has none
abbrev pub IsFlag : Option Text → Bool → Type 0
IsFlag None given = given ≡ false
IsFlag (Some text) given = (text ≡ codes "true" → given ≡ true) × (text ≡ codes "false" → given ≡ false)

-- the first day: today, where it is said how many days there are from today on, and then which is the last of them
abbrev pub first_said : (last from : Option DaySaid) → Option DaySaid
first_said last from = if is_some last then Some (After 0) else from

-- the last day
abbrev pub last_said : (last to : Option DaySaid) → Option DaySaid
last_said last to = option_or last to

-- a subcommand with what it was given asks for that: the name is the text of its option, a case, a day, by its date or by a word or by
-- how many days there are from today on, and the instant are those that the texts of their options write, and answers are to be lines,
-- what is listed overdue, and what is pending a page or a table, where those flags are given; the words say nothing of the clock's time
pub record IsAskedBy (name : Text) (given : List Row) (asked : Asked) : Type 0 where
  pub task : asked.task ≡ task_of name
  pub judge : option_map string_bytes asked.judge ≡ first_of (codes "judge") given
  pub case : asked.case ≡ option_and_then case_called (first_of (codes "case") given)
  pub from : asked.from ≡ first_said (option_and_then last_of_days (first_of (codes "days") given)) (option_and_then day_said (first_of (codes "from") given))
  pub to : asked.to ≡ last_said (option_and_then last_of_days (first_of (codes "days") given)) (option_and_then day_said (first_of (codes "to") given))
  pub of : asked.of ≡ option_and_then day_said (first_of (codes "of") given)
  pub on : asked.on ≡ option_and_then day_said (first_of (codes "on") given)
  pub today : asked.today ≡ option_and_then day_of_text (first_of (codes "today") given)
  pub stamp : asked.stamp ≡ option_and_then stamp_of_text (first_of (codes "stamp") given)
  pub lines : IsFlag (one_of (codes "lines") given) asked.lines
  pub overdue : IsFlag (one_of (codes "overdue") given) asked.overdue
  pub page : IsFlag (one_of (codes "page") given) asked.page
  pub csv : IsFlag (one_of (codes "csv") given) asked.csv

-- the text of an option writes an instant, or none is given
abbrev pub is_instant_taken : (text : Option Text) → Bool
is_instant_taken None = true
is_instant_taken (Some text) = is_some (stamp_of_text text)

-- each text that has to write a day, an instant, a case or a number of days does
abbrev pub are_given_taken : List Row → Bool
are_given_taken given =
    is_said_taken (first_of (codes "from") given)
    && (is_said_taken (first_of (codes "to") given)
    && (is_said_taken (first_of (codes "of") given)
    && (is_day_taken (first_of (codes "today") given)
    && (is_instant_taken (first_of (codes "stamp") given)
    && (is_case_taken (first_of (codes "case") given)
    && (is_count_taken (first_of (codes "days") given)
    && is_said_taken (first_of (codes "on") given)))))))

-- the fault where one doesn't
abbrev pub faults_given : List Row → Kinds
faults_given given = faults_unless (are_given_taken given)
