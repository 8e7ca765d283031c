-- What a row changed of what calendars show.
use Rattle.std.specs.Option.{option_and_then, option_map_or}
use Rattle.std.specs.Prelude.{ℕ, nat_le, ℤ, Option, Some, None, option_map, if◌then◌else◌}
use Rattle.docket_rows.specs.declared.answer.Answer.{Answer}
use Rattle.docket_rows.specs.declared.answer.Answer.TheVariants as answer
use Rattle.docket_rows.specs.declared.command.Command.{Command}
use Rattle.docket_rows.specs.declared.command.Command.TheVariants.{OpenCase, Start, FileAct, Extend, Motion, Holiday, Inaccessible, Fact}
use Rattle.docket_rows.specs.declared.command.HearingOrder.{HearingOrder}
use Rattle.docket_rows.specs.declared.fact.Fact.{Fact as FactOf}
use Rattle.docket_rows.specs.declared.fact.Fact.TheVariants.{Ended, Resumed, Closed, Reopened, Ruled, Assigned, Titled, Labelled}
use Rattle.docket_rows.specs.declared.hearing.Setting.{Setting}
use Rattle.docket_rows.specs.Words.{hearing_asked, order_of}
use Rattle.docket_selection.specs.declared.changes.change.Change.{Change}
use Rattle.docket_selection.specs.declared.changes.change.Change.TheVariants.{Days, Deadline, Hearing, Judges}
use Rattle.docket_selection.specs.declared.changes.change.HearingChange.{HearingChange}
use Rattle.docket_selection.specs.declared.changes.change.RowChange.{RowChange}

-- The hearing of a motion was set as it was asked for. One that isn't refused takes at most the 96 slots of a day.
abbrev pub setting_made : Setting → Option HearingChange
setting_made s = if nat_le s.count 96 then Some (record { case = s.case; motion = s.motion; hearing = Some (hearing_asked s) }) else None

-- the hearing of a motion was set, or where no setting is asked for it was taken off the calendar
abbrev pub order_made : HearingOrder → Option HearingChange
order_made order = option_map_or setting_made order.setting (Some (record { case = order.case; motion = order.motion; hearing = None }))

-- what a command about the hearing of a motion asks for
abbrev pub hearing_change : Command → Option HearingChange
hearing_change command = option_and_then order_made (order_of command)

-- what a fact of a case changes of what calendars show: its deadlines, also what they are called, or the judges before whom they are
abbrev pub fact_change : (case : ℕ) → FactOf → Change
fact_change case (Ended deadline why dated) = Deadline case
fact_change case (Resumed deadline day dated) = Deadline case
fact_change case (Closed why dated) = Deadline case
fact_change case (Reopened dated) = Deadline case
fact_change case (Ruled motion how dated) = Deadline case
fact_change case (Assigned judge referred dated) = Judges case judge referred
fact_change case Titled = Deadline case
fact_change case (Labelled counted number) = Deadline case

-- What a command asks for changes of what calendars show: a deadline of a case, which is started, extended, ended or resumed, or for
-- which an act or a fact of the case is recorded; the court's days, by a holiday or an outage, on which the end of any deadline may rest;
-- the hearing of a motion; or the judges of a case. A case that is opened and a motion that is entered are in no calendar.
abbrev pub change_asked : Command → Option Change
change_asked (OpenCase case filed) = None
change_asked (Start case period event second service) = Some (Deadline case)
change_asked (FileAct case deadline filing) = Some (Deadline case)
change_asked (Extend case deadline request) = Some (Deadline case)
change_asked (Motion case served need) = None
change_asked (Holiday day list) = Some Days
change_asked (Inaccessible day from to) = Some Days
change_asked (Fact case fact) = Some (fact_change case fact)
change_asked command = option_map Hearing (hearing_change command)

-- the day of the hearing that a ruling took off the calendar, by what it was answered
abbrev pub day_taken : Answer → Option ℤ
day_taken (answer.Ruled day) = day
day_taken made = None

-- what a command changed that isn't refused: what it asks for, or where it took a later hearing off as a ruling that hearing
abbrev pub change_by : Command → (taken : Option ℤ) → Option Change
change_by command None = change_asked command
change_by command (Some day) = option_map Hearing (hearing_change command)

-- what the row of that number changed, by a command that was so answered: nothing where it was refused
abbrev pub change_made : (row : ℕ) → Command → Answer → Option RowChange
change_made row command (answer.Refused refusal) = None
change_made row command made = option_map (λ change. record { row = row; change = change }) (change_by command (day_taken made))
