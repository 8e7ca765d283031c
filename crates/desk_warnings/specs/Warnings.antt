-- What a clerk is warned of before a row is kept, by the court and the docket before it, in which these cases have names and this
-- isn't at the place of its number. No deadline depends on a warning.
use Rattle.std.specs.Prelude.{ℕ, ℤ, List, [], ◌∷◌, ◌++◌, length, map, Option, Some, None, codes}
use Rattle.std.specs.List.{flat_map, range_with_len}
use Rattle.std.specs.Option.{option_map_or}
use Rattle.court_clock.specs.Words.{ClockView}
use Rattle.court_days.specs.Words.{CourtView}
use Rattle.rule6.specs.declared.timeliness.Filing.{Filing}
use Rattle.rule_periods.specs.declared.grant.Request.{Request}
use Rattle.rule_periods.specs.Words.{DeadlineRowView, runs_from, with_grant}
use Rattle.hearing_slots.specs.declared.booking.Booking.{Booking}
use Rattle.hearing_slots.specs.Words.{on_day}
use Rattle.docket_rows.specs.declared.answer.Answer.TheVariants as answer
use Rattle.docket_rows.specs.declared.command.Command.{Command as CommandOf}
use Rattle.docket_rows.specs.declared.command.Command.TheVariants as command
use Rattle.docket_rows.specs.declared.refusal.Refusal.{Refusal}
use Rattle.docket_rows.specs.declared.refusal.Refusal.TheVariants.{HearingThatDay}
use Rattle.docket_rows.specs.Words.{CaseRecordView, Parts, deadline_in, refusal, setup_of, shown_now, started}
use Rattle.case_numbers.specs.declared.names.NamedCase.{NamedCase}
use Rattle.case_numbers.specs.Words.{NameView}
use Rattle.docket_rows.specs.declared.sheet.SheetDeadline.{SheetDeadline}
use Rattle.reason_notes.specs.Warnings.Words.{extension_notes, note, notes_of_act, start_notes}
use Rattle.reason_refusals.specs.Words.{motion_of_refusal}
use Rattle.reason_refusals.specs.Commands.Words.{why_refused}
use Rattle.row_forms.specs.declared.row.Work.{Work}
use Rattle.row_forms.specs.declared.row.Work.TheVariants.{Command, Query}
use Rattle.office_texts.specs.Named.Words.{motion_called, named_answer, named_calendar}
use Rattle.desk_numbers.specs.declared.moved.Moved.{Moved}
use Rattle.desk_numbers.specs.Words.{numbered_booking, numbered_refusal, placed_command}
use Rattle.desk_warnings.specs.declared.register.HeldBack.{HeldBack}
use Rattle.desk_warnings.specs.declared.register.HeldBack.TheVariants.{Nothing, Warned}
use Rattle.desk_warnings.specs.Again.{same_notes}
use Rattle.desk_warnings.specs.Appeal.{moved_notes, moves_notes}
use Rattle.desk_warnings.specs.Dated.{dated_note}
use Rattle.desk_warnings.specs.Instead.{instead}
use Rattle.desk_warnings.specs.Long.{long_note}
use Rattle.desk_warnings.specs.Office.{office_note}
use Rattle.desk_warnings.specs.Sheet.{sheet_deadlines}

-- on a deadline that would start beside others: a motion that moves its time, and one that is the same and pending
abbrev pub among : List Moved → (case : ℕ) → DeadlineRowView → (others : List SheetDeadline) → List ℕ
among moved case row others = moved_notes row others ++ same_notes moved case row others

-- on a deadline, as it would start in the case: the notes that the memo of the case would have on it, and those for what the case has
abbrev pub at_start : CourtView → List Moved → Parts → (today : Option ℤ) → (case : ℕ) → Option CaseRecordView → DeadlineRowView → List ℕ
at_start court moved parts today case None row = []
at_start court moved parts today case (Some c) row =
    start_notes parts.days court.clock c.filed today row (shown_now (setup_of court) parts row) ++ among moved case row (sheet_deadlines (setup_of court) parts case)

-- on an act: it comes before the day from which its period runs, where that is counted after its event; or it is a motion that gives the
-- time for an appeal another beginning, and which deadlines of the case are such times
abbrev pub on_act : List Moved → (case : ℕ) → (others : List SheetDeadline) → Option DeadlineRowView → Filing → List ℕ
on_act moved case others None filing = []
on_act moved case others (Some row) filing = notes_of_act row.period (runs_from row) (Some filing) ++ moves_notes moved case row filing others

-- on an extension: the end that it gives is past when it is asked for, or lies after the event it counts back from
abbrev pub on_request : CourtView → Parts → Option DeadlineRowView → Request → List ℕ
on_request court parts None request = []
on_request court parts (Some row) request =
    extension_notes court.clock row (shown_now (setup_of court) parts (with_grant row request.grant)) request

-- the hearings of a judge on a day, with the judge's name before them, where there are some
abbrev pub hearings_before : CourtView → List NamedCase → (judge : ℕ) → List Booking → List ℕ
hearings_before court named judge [] = []
hearings_before court named judge (b ∷ bs) = named_calendar court named judge (b ∷ bs)

-- those of the docket, with the numbers of their motions
abbrev pub hearings_of : CourtView → List Moved → List NamedCase → Parts → (day : ℤ) → (judge : ℕ) → List ℕ
hearings_of court moved named parts day judge = hearings_before court named judge (map (numbered_booking moved) (on_day day (parts.judge judge)))

-- the hearings of all judges on a day
unfoldable pub hearings_on : CourtView → List Moved → List NamedCase → Parts → (day : ℤ) → List ℕ
hearings_on court moved named parts day = flat_map (hearings_of court moved named parts day) (range_with_len 0 (length court.judges))

-- what is said of them, after a line of why they matter
abbrev pub said_of : (day : ℤ) → (why hearings : List ℕ) → List ℕ
said_of day why [] = []
said_of day why (byte ∷ bytes) = note (Some day) why ++ (byte ∷ bytes)

-- on a command that isn't refused, by the docket
abbrev pub if_made : CourtView → List Moved → List NamedCase → Parts → (today : Option ℤ) → CommandOf → List ℕ
if_made court moved named parts today (command.Start case period event second service) =
    at_start court moved parts today case (parts.case case) (started period event second service)
if_made court moved named parts today (command.FileAct case deadline filing) =
    on_act moved case (sheet_deadlines (setup_of court) parts case) (deadline_in parts case deadline) filing
if_made court moved named parts today (command.Extend case deadline request) = on_request court parts (deadline_in parts case deadline) request
if_made court moved named parts today (command.Inaccessible day from to) =
    said_of day (codes "these hearings stay set on this day") (hearings_on court moved named parts day)
if_made court moved named parts today command = []

-- `  would be refused 17 NotACourtDay`: the words that it would be answered
abbrev pub refused_line : ClockView → List NamedCase → Refusal → List ℕ
refused_line clock named refusal = codes "  would be " ++ named_answer clock named (answer.Refused refusal) ++ 10 ∷ []

-- a holiday is refused where hearings are set that day, and its refusal names one of them: here are all
abbrev pub hearings_kept : CourtView → List Moved → List NamedCase → Parts → CommandOf → Refusal → List ℕ
hearings_kept court moved named parts (command.Holiday day list) (HearingThatDay case motion) =
    said_of day (codes "refused while these hearings are set on this day") (hearings_on court moved named parts day)
hearings_kept court moved named parts command refusal = []

-- what the motion is called on which a refusal of what was asked rests; the refusal names it by its number
abbrev pub called_in : List NamedCase → (asked : CommandOf) → (numbered : Refusal) → List ℕ
called_in named asked numbered = motion_called named (motion_of_refusal asked numbered)

-- on a command that is refused: that it is, why, and what would do instead; the docket is asked for the command, which names a
-- deadline or a motion by its place, where what was asked names it by its number
unfoldable pub if_refused : CourtView → List Moved → List NamedCase → Parts → (asked command : CommandOf) → Refusal → List ℕ
if_refused court moved named parts asked command refusal =
    refused_line court.clock named (numbered_refusal moved refusal)
    ++ why_refused court parts command (called_in named asked (numbered_refusal moved refusal)) refusal
    ++ hearings_kept court moved named parts command refusal
    ++ instead (setup_of court) parts command refusal

-- on what the row itself says: a day after that of entry, a hearing that would last long, and a new case's number
abbrev pub as_said : List NamedCase → (today : Option ℤ) → (name : Option NameView) → CommandOf → List ℕ
as_said named today name command = dated_note today command ++ long_note command ++ office_note named name

-- on a command that isn't refused, by the docket and by the row itself
abbrev pub if_kept : CourtView → List Moved → List NamedCase → Parts → (today : Option ℤ) → (name : Option NameView) → CommandOf → List ℕ
if_kept court moved named parts today name command = if_made court moved named parts today command ++ as_said named today name command

-- the same where rows that draw a warning are held back; where nothing is, only a refusal counts
abbrev pub if_taken : CourtView → List Moved → List NamedCase → Parts → HeldBack → (name : Option NameView) → CommandOf → List ℕ
if_taken court moved named parts Nothing name command = []
if_taken court moved named parts (Warned today) name command = if_kept court moved named parts today name command

-- on what was asked, and the command for which the docket is asked, in a row that gives a case this new name, if it gives one
unfoldable pub warnings_of : CourtView → List Moved → List NamedCase → Parts → HeldBack → (name : Option NameView) → (asked command : CommandOf) → List ℕ
warnings_of court moved named parts held name asked command =
    option_map_or (if_refused court moved named parts asked command) (refusal (setup_of court) parts command) (if_taken court moved named parts held name command)

-- what a clerk is warned of what a row asks for; a question draws no warning
abbrev pub warnings_on : CourtView → List Moved → List NamedCase → Parts → HeldBack → (name : Option NameView) → Work → List ℕ
warnings_on court moved named parts held name (Command asked) = warnings_of court moved named parts held name asked (placed_command moved asked)
warnings_on court moved named parts held name (Query query) = []
