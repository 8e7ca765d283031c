-- What a subcommand asks for with what it was given, and the faults of what it was given.
use Rattle.std.specs.Prelude.{◌≡◌, ℤ, ◌||◌, Bool, false, List, [], ◌∷◌, Option, None, Some, String, codes, is_some, option_map, string_bytes, if◌then◌else◌}
use Rattle.std.specs.Option.{option_and_then}
use Rattle.std.specs.Str.{bytes_eq}
use Rattle.std.specs.declared.alloc.Global.{Global}
use Rattle.clap.specs.Kinds.{or_else}
use Rattle.clap.specs.Words.{Kinds, Row, Text, first_of}
use Rattle.clap.specs.declared.error.kind.ErrorKind.TheVariants.{ArgumentConflict, MissingRequiredArgument}
use Rattle.court_clock.specs.Words.{day_of_text, minute_of_text}
use Rattle.court_writing.specs.Words.{district_named, of_district, zone_text}
use Rattle.desk_warnings.specs.declared.register.HeldBack.{HeldBack}
use Rattle.desk_warnings.specs.declared.register.HeldBack.TheVariants.{Nothing, Warned}
use Rattle.program_main.specs.Texts.Words.{day_said, faults_unless, is_case_taken, is_day_taken, is_said_taken, number_of}
use Rattle.office_texts.specs.Names.Words.{case_called}
use Rattle.office_texts.specs.declared.names.called.CaseCalled.{CaseCalled}
use Rattle.report_program.specs.declared.asked.Asked.{Asked}
use Rattle.report_program.specs.declared.asked.Task.{Task as Written}
use Rattle.report_program.specs.declared.asked.Task.TheVariants as written
use Rattle.report_program.specs.Words.{IsAskedBy as IsReportAsked, faults_given as report_faults}
use Rattle.report_memo.specs.Words.{IsAskedBy as IsMemoAsked, faults_given as memo_faults}
use Rattle.program_words.specs.AsOf.{as_of_faults, as_of_in, report_as_of_faults}
use Rattle.program_words.specs.declared.subcommand.Subcommand.{Subcommand}
use Rattle.program_words.specs.declared.subcommand.Subcommand.TheVariants as sub
use Rattle.program_words.specs.declared.task.AsOf.{AsOf}
use Rattle.program_words.specs.declared.task.Changing.{Changing}
use Rattle.program_words.specs.declared.task.Correcting.{Correcting}
use Rattle.program_words.specs.declared.task.Entering.{Entering}
use Rattle.program_words.specs.declared.task.Keeping.{Keeping}
use Rattle.program_words.specs.declared.task.Keeping.TheVariants.{Each, Together}
use Rattle.program_words.specs.declared.task.Lines.{Lines}
use Rattle.program_words.specs.declared.task.Lines.TheVariants as lines
use Rattle.program_words.specs.declared.task.LogAsked.{LogAsked}
use Rattle.program_words.specs.declared.task.Source.{Source}
use Rattle.program_words.specs.declared.task.Source.TheVariants as source
use Rattle.program_words.specs.declared.task.Style.{Style}
use Rattle.program_words.specs.declared.task.Task.{Task}
use Rattle.program_words.specs.declared.task.Updating.{Updating}
use Rattle.program_words.specs.declared.task.Writing.{Writing}
use Rattle.program_words.specs.declared.task.Task.TheVariants as task
use Rattle.program_words.specs.Given.{clerk_of, faults_beside, faults_if_given, faults_reading, faults_together, faults_without, is_flag, line_of, order_of, seconds_of, wait_of, year_of}

-- ---- which subcommand a name means

abbrev pub meant : (name : Text) → Subcommand
meant name =
    if bytes_eq name (codes "init") then sub.Init
    else if bytes_eq name (codes "enter") then sub.Enter
    else if bytes_eq name (codes "try") then sub.Try
    else if bytes_eq name (codes "ask") then sub.Ask
    else if bytes_eq name (codes "plain") then sub.Plain
    else if bytes_eq name (codes "strike") then sub.Strike
    else if bytes_eq name (codes "restore") then sub.Restore
    else if bytes_eq name (codes "struck") then sub.Struck
    else if bytes_eq name (codes "cases") then sub.Cases
    else if bytes_eq name (codes "check") then sub.Check
    else if bytes_eq name (codes "rows") then sub.Rows
    else if bytes_eq name (codes "log") then sub.Log
    else if bytes_eq name (codes "memo") then sub.Memo
    else if bytes_eq name (codes "sheet") then sub.Sheet
    else if bytes_eq name (codes "case") then sub.Case
    else if bytes_eq name (codes "court") then sub.Court
    else sub.Report

-- after the word `court`
abbrev pub court_meant : (name : Text) → Subcommand
court_meant name =
    if bytes_eq name (codes "check") then sub.CourtCheck
    else if bytes_eq name (codes "write") then sub.CourtWrite
    else if bytes_eq name (codes "update") then sub.CourtUpdate
    else sub.CourtChange

-- ---- what was given

-- the text of that name, and whether the flag of that name was given
abbrev pub IsText : (name : Text) → List Row → String Global → Type 0
IsText name given text = first_of name given ≡ Some (string_bytes text)

abbrev pub has : (name : Text) → List Row → Bool
has name given = is_flag (first_of name given)

-- how lines are written that people write
abbrev pub style_of : List Row → Style
style_of given = record { order = option_and_then order_of (first_of (codes "dates") given); json = has (codes "json") given }

abbrev pub style_faults : List Row → Kinds
style_faults given = faults_if_given order_of (first_of (codes "dates") given)

-- how lines are read, and whose they are where they name no clerk
abbrev pub lines_of : List Row → Lines
lines_of given = if has (codes "as-written") given then lines.AsWritten (style_of given) else lines.Plain (option_and_then clerk_of (first_of (codes "clerk") given))

-- `--dates` and `--json` count beside `--as-written` alone
abbrev pub beside_faults : List Row → Kinds
beside_faults given =
    or_else (faults_beside (is_some (first_of (codes "dates") given)) (has (codes "as-written") given)) (faults_beside (has (codes "json") given) (has (codes "as-written") given))

-- a list that people write names its clerks itself
abbrev pub clerk_faults : List Row → Kinds
clerk_faults given = or_else (faults_together (has (codes "as-written") given) (is_some (first_of (codes "clerk") given))) (faults_if_given clerk_of (first_of (codes "clerk") given))

abbrev pub lines_faults : List Row → Kinds
lines_faults given = or_else (or_else (beside_faults given) (style_faults given)) (clerk_faults given)

-- whether rows are held back that draw a warning, and which day counts as today
abbrev pub held_back_of : List Row → HeldBack
held_back_of given = if has (codes "warn") given then Warned (option_and_then day_of_text (first_of (codes "today") given)) else Nothing

-- `--today` counts beside `--warn` alone
abbrev pub held_back_faults : List Row → Kinds
held_back_faults given =
    or_else (faults_beside (is_some (first_of (codes "today") given)) (has (codes "warn") given)) (faults_unless (is_day_taken (first_of (codes "today") given)))

-- which rows are kept
abbrev pub keeping_of : List Row → Keeping
keeping_of given = if has (codes "all-or-nothing") given then Together (has (codes "keep-refused") given) else Each

-- `--keep-refused` counts beside `--all-or-nothing` alone
abbrev pub keeping_faults : List Row → Kinds
keeping_faults given = faults_beside (has (codes "keep-refused") given) (has (codes "all-or-nothing") given)

-- how long to wait for others
abbrev pub wait_faults : List Row → Kinds
wait_faults given = faults_if_given seconds_of (first_of (codes "wait") given)

-- how rows are entered
pub record IsEntering (given : List Row) (entering : Entering) : Type 0 where
  pub lines : entering.lines ≡ lines_of given
  pub held_back : entering.held_back ≡ held_back_of given
  pub keeping : entering.keeping ≡ keeping_of given
  pub wait : wait_of (first_of (codes "wait") given) ≡ Some entering.wait

abbrev pub entering_faults : List Row → Kinds
entering_faults given = or_else (or_else (lines_faults given) (or_else (held_back_faults given) (keeping_faults given))) (wait_faults given)

-- which row is struck or restored, why, and whether it is though answers differ
pub record IsCorrecting (clock_time : ℤ) (given : List Row) (correcting : Correcting) : Type 0 where
  pub row : option_and_then number_of (first_of (codes "row") given) ≡ Some correcting.row
  pub reason : option_and_then line_of (first_of (codes "reason") given) ≡ Some (string_bytes correcting.reason)
  pub clock : correcting.clock_time ≡ clock_time
  pub accept : correcting.accept ≡ has (codes "accept") given
  pub wait : wait_of (first_of (codes "wait") given) ≡ Some correcting.wait

-- the faults of the row, of why, and of how long to wait
abbrev pub correcting_faults : List Row → Kinds
correcting_faults given = or_else (or_else (faults_reading number_of (first_of (codes "row") given)) (faults_reading line_of (first_of (codes "reason") given))) (wait_faults given)

-- what a court's file has that is written
pub record IsWriting (given : List Row) (writing : Writing) : Type 0 where
  pub from : option_and_then year_of (first_of (codes "from") given) ≡ Some writing.from
  pub to : option_and_then year_of (first_of (codes "to") given) ≡ Some writing.to
  pub opens : writing.opens ≡ option_and_then minute_of_text (first_of (codes "opens") given)
  pub closes : writing.closes ≡ option_and_then minute_of_text (first_of (codes "closes") given)
  pub efiling_until : writing.efiling_until ≡ option_and_then minute_of_text (first_of (codes "efiling-until") given)
  pub judges : option_map string_bytes writing.judges ≡ first_of (codes "judges") given
  pub rooms : option_map string_bytes writing.rooms ≡ first_of (codes "rooms") given

abbrev pub writing_faults : List Row → Kinds
writing_faults given =
    or_else (or_else (faults_reading year_of (first_of (codes "from") given)) (faults_reading year_of (first_of (codes "to") given)))
    (or_else (or_else (faults_if_given minute_of_text (first_of (codes "opens") given)) (faults_if_given minute_of_text (first_of (codes "closes") given)))
    (faults_if_given minute_of_text (first_of (codes "efiling-until") given)))

-- years that are added to a court's file
pub record IsUpdating (given : List Row) (updating : Updating) : Type 0 where
  pub to : option_and_then year_of (first_of (codes "to") given) ≡ Some updating.to
  pub accept : updating.accept ≡ has (codes "accept") given
  pub wait : wait_of (first_of (codes "wait") given) ≡ Some updating.wait

-- another court's file
pub record IsChanging (given : List Row) (changing : Changing) : Type 0 where
  pub file : IsText (codes "file") given changing.file
  pub accept : changing.accept ≡ has (codes "accept") given
  pub wait : wait_of (first_of (codes "wait") given) ≡ Some changing.wait

-- which entries of a folder are listed
pub record IsLog (clock_time : ℤ) (given : List Row) (asked : LogAsked) : Type 0 where
  pub row : asked.row ≡ option_and_then number_of (first_of (codes "row") given)
  pub case : asked.case ≡ option_and_then case_called (first_of (codes "case") given)
  pub by : option_map string_bytes asked.by ≡ option_and_then line_of (first_of (codes "by") given)
  pub from : asked.from ≡ option_and_then day_said (first_of (codes "from") given)
  pub to : asked.to ≡ option_and_then day_said (first_of (codes "to") given)
  pub clock : asked.clock_time ≡ clock_time
  pub json : asked.json ≡ has (codes "json") given

abbrev pub log_faults : List Row → Kinds
log_faults given =
    or_else (or_else (or_else (faults_if_given number_of (first_of (codes "row") given)) (faults_unless (is_case_taken (first_of (codes "case") given)))) (faults_if_given line_of (first_of (codes "by") given)))
    (or_else (faults_unless (is_said_taken (first_of (codes "from") given))) (faults_unless (is_said_taken (first_of (codes "to") given))))

-- of what a report is, by the texts of FOLDER and `--input`: a folder, as of then, or an input, which `-` says is standard input
abbrev pub IsSourceOf : (folder input : Option Text) → Option AsOf → Source → Type 0
IsSourceOf folder input as_of (source.Folder name said) = (folder ≡ Some (string_bytes name)) × (input ≡ None) × (said ≡ as_of)
IsSourceOf folder input as_of (source.File name) = (input ≡ Some (string_bytes name)) × (bytes_eq (string_bytes name) (codes "-") ≡ false) × (folder ≡ None)
IsSourceOf folder input as_of source.StandardInput = (input ≡ Some (codes "-")) × (folder ≡ None)

abbrev pub IsSource : (clock_time : ℤ) → List Row → Source → Type 0
IsSource clock_time given = IsSourceOf (first_of (codes "folder") given) (first_of (codes "input") given) (as_of_in clock_time given)

-- it is one of the two, and not both
abbrev pub source_faults : (folder input : Option Text) → Kinds
source_faults (Some folder) (Some input) = ArgumentConflict ∷ []
source_faults (Some folder) None = []
source_faults None (Some input) = []
source_faults None None = MissingRequiredArgument ∷ []

-- the faults of as of when it is read, and then those of the two
abbrev pub report_source_faults : List Row → Kinds
report_source_faults given = or_else (report_as_of_faults given) (source_faults (first_of (codes "folder") given) (first_of (codes "input") given))

-- a judge, a case or a day narrows what a report has
abbrev pub is_narrowed : List Row → Bool
is_narrowed given = ((is_some (first_of (codes "judge") given) || is_some (first_of (codes "case") given)) || is_some (first_of (codes "from") given)) || is_some (first_of (codes "to") given)

-- the answers alone, as `--lines` gives them, aren't narrowed
abbrev pub lines_alone_faults : List Row → Kinds
lines_alone_faults given = faults_together (is_flag (first_of (codes "lines") given)) (is_narrowed given)

-- other days are said, or only what is overdue is asked for
abbrev pub has_other_days : List Row → Bool
has_other_days given = (is_some (first_of (codes "from") given) || is_some (first_of (codes "to") given)) || is_flag (first_of (codes "overdue") given)

-- so many days from today on, as `--days` says them, don't go with other days
abbrev pub days_alone_faults : List Row → Kinds
days_alone_faults given = faults_together (is_some (first_of (codes "days") given)) (has_other_days given)

-- what is pending is written as a page or as a table, not as both
abbrev pub one_form_faults : List Row → Kinds
one_form_faults given = faults_together (is_flag (first_of (codes "page") given)) (is_flag (first_of (codes "csv") given))

-- the faults of options that don't go together
abbrev pub apart_faults : List Row → Kinds
apart_faults given = or_else (or_else (lines_alone_faults given) (days_alone_faults given)) (one_form_faults given)

-- The places of a sheet are those of a folder and a case; where an input is given, the first is that of the case.
abbrev pub sheet_folder : (first second input : Option Text) → Option Text
sheet_folder first second None = first
sheet_folder first second (Some input) = second

abbrev pub sheet_case : (first second input : Option Text) → Option Text
sheet_case first second None = second
sheet_case first second (Some input) = first

abbrev pub folder_given : List Row → Option Text
folder_given given = sheet_folder (first_of (codes "folder") given) (first_of (codes "case") given) (first_of (codes "input") given)

abbrev pub case_given : List Row → Option Text
case_given given = sheet_case (first_of (codes "folder") given) (first_of (codes "case") given) (first_of (codes "input") given)

-- of what a sheet is, and the faults of that
abbrev pub IsSheetSource : (clock_time : ℤ) → List Row → Source → Type 0
IsSheetSource clock_time given = IsSourceOf (folder_given given) (first_of (codes "input") given) (as_of_in clock_time given)

abbrev pub sheet_source_faults : List Row → Kinds
sheet_source_faults given = or_else (report_as_of_faults given) (source_faults (folder_given given) (first_of (codes "input") given))

-- this of that case, and no more
abbrev pub case_asked : Written → (clock_time : ℤ) → (case : Option CaseCalled) → Asked
case_asked what clock_time case = record {
  task = what;
  judge = None;
  case = case;
  from = None;
  to = None;
  of = None;
  on = None;
  today = None;
  stamp = None;
  clock_time = clock_time;
  lines = false;
  overdue = false;
  page = false;
  csv = false;
}

-- ---- the subcommands

-- the subcommand asks for that, by the clock's time
abbrev pub IsTask : (clock_time : ℤ) → Subcommand → (name : Text) → List Row → Task → Type 0
IsTask clock_time sub.Init name given (task.Init folder court) = IsText (codes "folder") given folder × IsText (codes "court") given court
IsTask clock_time sub.Enter name given (task.Enter folder entering) = IsText (codes "folder") given folder × IsEntering given entering
IsTask clock_time sub.Try name given (task.Try folder lines held_back) = IsText (codes "folder") given folder × (lines ≡ lines_of given) × (held_back ≡ held_back_of given)
IsTask clock_time sub.Ask name given (task.Ask folder lines as_of) = IsText (codes "folder") given folder × (lines ≡ lines_of given) × (as_of ≡ as_of_in clock_time given)
IsTask clock_time sub.Plain name given (task.Plain folder style) = IsText (codes "folder") given folder × (style ≡ style_of given)
IsTask clock_time sub.Strike name given (task.Strike folder correcting) = IsText (codes "folder") given folder × IsCorrecting clock_time given correcting
IsTask clock_time sub.Restore name given (task.Restore folder correcting) = IsText (codes "folder") given folder × IsCorrecting clock_time given correcting
IsTask clock_time sub.Struck name given (task.Struck folder as_of) = IsText (codes "folder") given folder × (as_of ≡ as_of_in clock_time given)
IsTask clock_time sub.Cases name given (task.Cases folder as_of) = IsText (codes "folder") given folder × (as_of ≡ as_of_in clock_time given)
IsTask clock_time sub.Check name given (task.Check folder) = IsText (codes "folder") given folder
IsTask clock_time sub.Rows name given (task.Rows folder as_of) = IsText (codes "folder") given folder × (as_of ≡ as_of_in clock_time given)
IsTask clock_time sub.Log name given (task.Log folder asked) = IsText (codes "folder") given folder × IsLog clock_time given asked
IsTask clock_time sub.Report name given (task.Report of asked) = IsSource clock_time given of × IsReportAsked name given asked × (asked.clock_time ≡ clock_time)
IsTask clock_time sub.Memo name given (task.Memo of asked) =
    IsSource clock_time given of × IsMemoAsked given asked × (asked.clock_time ≡ clock_time) × (asked.html ≡ has (codes "html") given)
IsTask clock_time sub.Sheet name given (task.Report of asked) =
    IsSheetSource clock_time given of × (asked ≡ case_asked written.Sheet clock_time (option_and_then case_called (case_given given)))
IsTask clock_time sub.Case name given (task.Case folder asked) =
    IsText (codes "folder") given folder × (asked ≡ case_asked written.Case clock_time (option_and_then case_called (first_of (codes "case") given)))
IsTask clock_time sub.CourtCheck name given (task.CourtCheck file asked shown) =
    IsText (codes "file") given file × (asked.today ≡ option_and_then day_of_text (first_of (codes "today") given)) × (asked.capital ≡ has (codes "capital") given) × (asked.state ≡ None) × (shown ≡ clock_time)
IsTask clock_time sub.CourtWrite name given (task.CourtWrite court writing) =
    (option_and_then district_named (first_of (codes "court") given) ≡ Some (of_district court.code.now court.state (zone_text court.zone))) × IsWriting given writing
IsTask clock_time sub.CourtUpdate name given (task.CourtUpdate folder updating) = IsText (codes "folder") given folder × IsUpdating given updating
IsTask clock_time sub.CourtChange name given (task.CourtChange folder changing) = IsText (codes "folder") given folder × IsChanging given changing
IsTask clock_time subcommand name given other = ⊥

-- the faults of a folder, and of as of when it is read
abbrev pub kept_faults : List Row → Kinds
kept_faults given = or_else (faults_without (first_of (codes "folder") given)) (as_of_faults given)

-- the faults of what it was given, of which the first counts
abbrev pub faults_given : Subcommand → List Row → Kinds
faults_given sub.Init given = or_else (faults_without (first_of (codes "folder") given)) (faults_without (first_of (codes "court") given))
faults_given sub.Enter given = or_else (faults_without (first_of (codes "folder") given)) (entering_faults given)
faults_given sub.Try given = or_else (faults_without (first_of (codes "folder") given)) (or_else (lines_faults given) (held_back_faults given))
faults_given sub.Ask given = or_else (faults_without (first_of (codes "folder") given)) (or_else (lines_faults given) (as_of_faults given))
faults_given sub.Plain given = or_else (faults_without (first_of (codes "folder") given)) (style_faults given)
faults_given sub.Strike given = or_else (faults_without (first_of (codes "folder") given)) (correcting_faults given)
faults_given sub.Restore given = or_else (faults_without (first_of (codes "folder") given)) (correcting_faults given)
faults_given sub.Struck given = kept_faults given
faults_given sub.Cases given = kept_faults given
faults_given sub.Check given = faults_without (first_of (codes "folder") given)
faults_given sub.Rows given = kept_faults given
faults_given sub.Log given = or_else (faults_without (first_of (codes "folder") given)) (log_faults given)
faults_given sub.Report given = or_else (report_source_faults given) (or_else (apart_faults given) (report_faults given))
faults_given sub.Memo given = or_else (report_source_faults given) (memo_faults given)
faults_given sub.Sheet given = or_else (sheet_source_faults given) (faults_reading case_called (case_given given))
faults_given sub.Case given = or_else (faults_without (first_of (codes "folder") given)) (faults_reading case_called (first_of (codes "case") given))
faults_given sub.Court given = MissingRequiredArgument ∷ []
faults_given sub.CourtCheck given = or_else (faults_without (first_of (codes "file") given)) (faults_unless (is_day_taken (first_of (codes "today") given)))
faults_given sub.CourtWrite given = or_else (faults_reading district_named (first_of (codes "court") given)) (writing_faults given)
faults_given sub.CourtUpdate given = or_else (or_else (faults_without (first_of (codes "folder") given)) (faults_reading year_of (first_of (codes "to") given))) (wait_faults given)
faults_given sub.CourtChange given = or_else (or_else (faults_without (first_of (codes "folder") given)) (faults_without (first_of (codes "file") given))) (wait_faults given)
