-- What is due: the end of a deadline's time, or a hearing.
use Rattle.std.specs.Prelude.{ℕ, ◌*◌, ℤ, Bool, true, false, is_some, Option, Some, None, option_map}
use Rattle.court_clock.specs.Words.{CivilTime, ClockView, civil_of, second_of}
use Rattle.rule6.specs.declared.timeliness.Shown.{Shown}
use Rattle.rule6.specs.declared.timeliness.Shown.TheVariants as shown
use Rattle.docket_rows.specs.declared.sheet.SheetDeadline.{SheetDeadline}
use Rattle.docket_rows.specs.declared.sheet.SheetHearing.{SheetHearing}
use Rattle.docket_rows.specs.declared.sheet.SheetMotion.{SheetMotion}
use Rattle.docket_rows.specs.declared.sheet.State.{State}
use Rattle.docket_rows.specs.declared.sheet.State.TheVariants.{Pending, Timely, Late, Undecided}
use Rattle.docket_selection.specs.declared.item.DueItem.{DueItem}
use Rattle.docket_selection.specs.declared.item.Matter.{Matter}
use Rattle.docket_selection.specs.declared.item.Matter.TheVariants.{Deadline, Hearing}

-- When the end of a deadline is listed: with the beginning of its last day, or when its hours end. What ends beyond the
-- days covered has no day.
abbrev pub end_of : ClockView → Shown → Option CivilTime
end_of clock (shown.Last day act) = Some (record { day = day; second = 0 })
end_of clock (shown.Until end) = civil_of clock.zone end
end_of clock shown.Beyond = None

-- the item of a deadline of a sheet, before other readings are asked
abbrev pub deadline_item : ClockView → (case : ℕ) → SheetDeadline → Option DueItem
deadline_item clock case d = option_map (λ (at : CivilTime). record {
  day = at.day;
  second = at.second;
  case = case;
  number = d.number;
  matter = Deadline (record { period = d.row.period; shown = d.shown; state = d.state; ended = d.ended; other = None });
}) (end_of clock d.shown)

-- the item of a deadline with the end by another reading
abbrev pub matter_with_other : Option Shown → Matter → Matter
matter_with_other other (Deadline d) = Deadline (record d { other = other })
matter_with_other other (Hearing h) = Hearing h

abbrev pub with_other : Option Shown → DueItem → DueItem
with_other other item = record item { matter = matter_with_other other item.matter }

-- the item of the hearing of a motion of that number; slot s begins at second 900·s of the day
abbrev pub set_item : (case number : ℕ) → SheetHearing → DueItem
set_item case number h = record {
  day = h.hearing.day;
  second = 900 * h.hearing.first;
  case = case;
  number = number;
  matter = Hearing h;
}

-- the item of the hearing of a motion of a sheet, if one is set
abbrev pub hearing_item : (case : ℕ) → SheetMotion → Option DueItem
hearing_item case m = option_map (set_item case m.number) m.hearing

-- an act is recorded that was in time; what was filed late is still due
abbrev pub is_timely : State → Bool
is_timely Timely = true
is_timely Pending = false
is_timely Late = false
is_timely Undecided = false

-- no act is recorded
abbrev pub is_pending : State → Bool
is_pending Pending = true
is_pending Timely = false
is_pending Late = false
is_pending Undecided = false

abbrev pub is_met : Matter → Bool
is_met (Deadline d) = is_timely d.state
is_met (Hearing h) = false

-- it was ended and not resumed, so it is due no more
abbrev pub is_ended : Matter → Bool
is_ended (Deadline d) = is_some d.ended
is_ended (Hearing h) = false

-- the time of an item, in seconds on the court's clock
abbrev pub time_of : DueItem → ℤ
time_of item = second_of item.day item.second
