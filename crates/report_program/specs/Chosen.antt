-- What is chosen of a court by what was asked for.
use Rattle.std.specs.Prelude.{ℕ, ℤ, Bool, true, false, List, Option, Some, None, Result, Ok, Err, int_lt, ok_or, option_map, string_bytes, unwrap_or, if◌then◌else◌}
use Rattle.std.specs.Option.{option_and_then, option_or}
use Rattle.office_texts.specs.Names.Words.{number_called}
use Rattle.office_texts.specs.declared.names.called.CaseCalled.{CaseCalled}
use Rattle.case_numbers.specs.declared.names.NamedCase.{NamedCase}
use Rattle.court_clock.specs.Words.{earlier_day}
use Rattle.court_days.specs.Words.{CourtView, DaysView, is_covered}
use Rattle.court_file_text.specs.Words.{name_index}
use Rattle.docket_selection.specs.declared.choice.Choice.{Choice}
use Rattle.program_main.specs.declared.texts.days.DaySaid.{DaySaid}
use Rattle.program_main.specs.declared.texts.days.DaySaid.TheVariants.{Before}
use Rattle.program_main.specs.Texts.Words.{day_on, today_by}
use Rattle.report_program.specs.declared.asked.Asked.{Asked}
use Rattle.report_program.specs.declared.asked.Task.TheVariants as task
use Rattle.report_program.specs.declared.asked.Task.{Task}
use Rattle.report_program.specs.declared.chosen.Chosen.{Chosen}
use Rattle.report_program.specs.declared.chosen.Chosen.TheVariants.{Json, Lines, Listed, Sql}
use Rattle.report_program.specs.declared.chosen.Form.{Form}
use Rattle.report_program.specs.declared.chosen.Form.TheVariants as form
use Rattle.report_program.specs.declared.chosen.Listing.{Listing}
use Rattle.report_program.specs.declared.chosen.Listing.TheVariants.{Case, Due, Ics, Page, Pending, Sheet, Week}
use Rattle.report_program.specs.declared.chosen.Missing.{Missing}
use Rattle.report_program.specs.declared.chosen.Missing.TheVariants as missing

-- the number of the case that is asked for, if one is; none where no case has that name
abbrev pub case_given : List NamedCase → Option CaseCalled → Option (Option ℕ)
case_given named None = Some None
case_given named (Some called) = option_map (λ number. Some number) (number_called named called)

-- the day that counts as today: the one that is asked for, or else the one that the court's clock shows
abbrev pub today_of : CourtView → Asked → ℤ
today_of court asked = unwrap_or asked.today (today_by court.clock asked.clock_time)

-- the day that is said, by that day, or else the other day
abbrev pub day_asked : CourtView → Asked → Option DaySaid → (other : ℤ) → ℤ
day_asked court asked said other = unwrap_or (option_map (day_on (today_of court asked)) said) other

-- of that judge or of any, and of that case or of any: all days of the court's file, as far as nothing else is asked for
abbrev pub choice_of : CourtView → (case : Option ℕ) → Asked → (met : Bool) → (judge : Option ℕ) → Choice
choice_of court case asked met judge = record {
  judge = judge;
  elsewhere = false;
  case = case;
  from = day_asked court asked asked.from court.days.from;
  to = day_asked court asked asked.to court.days.to;
  met = met;
  overdue = asked.overdue;
}

-- of the judge of that name, where the court has one, or of any where none is asked for
abbrev pub choice_named : CourtView → (case : Option ℕ) → Asked → (met : Bool) → (name : Option (List ℕ)) → Option Choice
choice_named court case asked met (Some name) = option_map (λ judge. choice_of court case asked met (Some judge)) (name_index court.judges name)
choice_named court case asked met None = Some (choice_of court case asked met None)

abbrev pub choice_asked : CourtView → (case : Option ℕ) → Asked → (met : Bool) → Option Choice
choice_asked court case asked met = choice_named court case asked met (option_map string_bytes asked.judge)

-- the judge of that name, who has to be given
abbrev pub judge_given : CourtView → (name : Option (List ℕ)) → Option ℕ
judge_given court name = option_and_then (name_index court.judges) name

-- what is due of that: deadlines with no timely act
abbrev pub due_chosen : CourtView → (case : Option ℕ) → Asked → Option Chosen
due_chosen court case asked = option_map (λ choice. Listed (Due choice)) (choice_asked court case asked false)

-- the page of that
abbrev pub page_chosen : CourtView → (case : Option ℕ) → Asked → Option Chosen
page_chosen court case asked = option_map (λ choice. Listed (Page choice)) (choice_asked court case asked false)

-- the calendar of that, with all deadlines, written at the instant that is asked for, or else at the clock's time
abbrev pub ics_chosen : CourtView → (case : Option ℕ) → Asked → Option Chosen
ics_chosen court case asked = option_map (λ choice. Listed (Ics choice (unwrap_or asked.stamp asked.clock_time))) (choice_asked court case asked true)

-- the JSON of that, or the answers alone as lines
abbrev pub json_chosen : CourtView → (case : Option ℕ) → Asked → Option Chosen
json_chosen court case asked = option_map (λ choice. if asked.lines then Lines else Json choice) (choice_asked court case asked true)

-- the week of the judge in which the day is
abbrev pub week_chosen : CourtView → Asked → Option Chosen
week_chosen court asked =
    option_map (λ judge. Listed (Week judge (day_asked court asked asked.of court.days.from))) (judge_given court (option_map string_bytes asked.judge))

-- the sheet of that case; no case has the number 0, which stands for none
abbrev pub sheet_chosen : (case : Option ℕ) → Chosen
sheet_chosen case = Listed (Sheet (unwrap_or case 0))

-- the page of that case, likewise
abbrev pub page_of_case : (case : Option ℕ) → Chosen
page_of_case case = Listed (Case (unwrap_or case 0))

-- as what it is written what has been pending for long
abbrev pub form_asked : Asked → Form
form_asked asked = if asked.page then form.Page else if asked.csv then form.Csv else form.Text

-- what has been pending for long on the day that is asked for
abbrev pub pending_chosen : CourtView → Asked → Chosen
pending_chosen court asked = Listed (Pending (day_asked court asked asked.on court.days.from) (form_asked asked))

abbrev pub chosen_for : Task → CourtView → (case : Option ℕ) → Asked → Option Chosen
chosen_for task.Due court case asked = due_chosen court case asked
chosen_for task.Week court case asked = week_chosen court asked
chosen_for task.Page court case asked = page_chosen court case asked
chosen_for task.Ics court case asked = ics_chosen court case asked
chosen_for task.Json court case asked = json_chosen court case asked
chosen_for task.Sql court case asked = Some Sql
chosen_for task.Sheet court case asked = Some (sheet_chosen case)
chosen_for task.Pending court case asked = Some (pending_chosen court asked)
chosen_for task.Case court case asked = Some (page_of_case case)

-- what is chosen of that case or of any, where the court has the judge that is asked for
unfoldable pub chosen_by : CourtView → (case : Option ℕ) → Asked → Option Chosen
chosen_by court case asked = chosen_for asked.task court case asked

infixl 10 ◌>>=◌
abbrev pub ◌>>=◌ : {A B : Type 0} → Result A Missing → (A → Result B Missing) → Result B Missing
(Ok x) >>= more = more x
(Err missing) >>= more = Err missing

-- the day isn't there where the court's file doesn't cover it
abbrev pub missing_day : DaysView → (day : ℤ) → Option Missing
missing_day days day = if is_covered days day then None else Some (missing.Day day)

-- of the days from a first to a last one, the first or the last isn't covered, or the last comes before the first
abbrev pub missing_backwards : (from to : ℤ) → Option Missing
missing_backwards from to = if int_lt to from then Some (missing.Backwards from to) else None

abbrev pub missing_between : DaysView → Choice → Option Missing
missing_between days choice = option_or (missing_day days choice.from) (option_or (missing_day days choice.to) (missing_backwards choice.from choice.to))

-- which of the days that are chosen isn't there
abbrev pub missing_listed : DaysView → Listing → Option Missing
missing_listed days (Due choice) = missing_between days choice
missing_listed days (Week judge day) = missing_day days day
missing_listed days (Page choice) = missing_between days choice
missing_listed days (Ics choice stamp) = missing_between days choice
missing_listed days (Sheet case) = None
missing_listed days (Pending day form) = missing_day days day
missing_listed days (Case case) = None

abbrev pub missing_days : DaysView → Chosen → Option Missing
missing_days days (Listed listing) = missing_listed days listing
missing_days days (Json choice) = missing_between days choice
missing_days days Lines = None
missing_days days Sql = None

-- the last day on which something ended that is listed: what is overdue ended before today
abbrev pub last_ended : CourtView → Asked → (to : ℤ) → ℤ
last_ended court asked to = if asked.overdue then earlier_day to (day_on (today_of court asked) (Before 1)) else to

abbrev pub ended_choice : CourtView → Asked → Choice → Choice
ended_choice court asked choice = record choice { to = last_ended court asked choice.to }

-- What is chosen up to that day. All days that are asked for may be later; then nothing is overdue.
abbrev pub up_to_ended : CourtView → Asked → Chosen → Chosen
up_to_ended court asked (Listed (Due choice)) = Listed (Due (ended_choice court asked choice))
up_to_ended court asked other = other

abbrev pub unless_missing : Chosen → Option Missing → Result Chosen Missing
unless_missing chosen (Some missing) = Err missing
unless_missing chosen None = Ok chosen

-- what is chosen, or the first that isn't there: the case by its name, the judge, a day
unfoldable pub chosen_of : CourtView → List NamedCase → Asked → Result Chosen Missing
chosen_of court named asked = do
  case ← ok_or (case_given named asked.case) missing.Case
  chosen ← ok_or (chosen_by court case asked) missing.Judge
  unless_missing (up_to_ended court asked chosen) (missing_days court.days chosen)
