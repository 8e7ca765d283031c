-- Events of a calendar, with the numbers that deadlines and motions keep. What changed a hearing is found by its motion's place, so
-- they get their numbers last; a motion keeps its event in a calendar program by its number. A correction counts as a row does.
use Rattle.std.specs.Prelude.{ℕ, Bool, true, false, List, if◌then◌else◌}
use Rattle.rule6.specs.declared.timeliness.Shown.{Shown}
use Rattle.rule6.specs.declared.timeliness.Shown.TheVariants.{Beyond}
use Rattle.docket_selection.specs.declared.item.DueItem.{DueItem}
use Rattle.docket_selection.specs.declared.item.Matter.{Matter}
use Rattle.docket_selection.specs.declared.item.Matter.TheVariants.{Deadline, Hearing}
use Rattle.report_ics.specs.declared.appointment.Appointment.{Appointment}
use Rattle.desk_numbers.specs.declared.moved.Moved.{Moved}
use Rattle.desk_numbers.specs.Words.{is_apart, place_apart}
use Rattle.report_texts.specs.Words.{numbered_item}
use Rattle.report_program.specs.Past.{later_by}

abbrev pub is_beyond : Shown → Bool
is_beyond Beyond = true
is_beyond shown = false

-- a deadline that no row starts any more: it has its number, and no place
abbrev pub is_lost : Matter → Bool
is_lost (Deadline d) = is_beyond d.shown
is_lost (Hearing h) = false

-- with the number of its place; a motion that is none any more has a place apart, which tells its number
abbrev pub numbered_by_place : List Moved → DueItem → DueItem
numbered_by_place moved item = if is_apart item.number then record item { number = place_apart item.number } else numbered_item moved item

abbrev pub numbered_or_lost : List Moved → DueItem → DueItem
numbered_or_lost moved item = if is_lost item.matter then item else numbered_by_place moved item

abbrev pub numbered_appointment : List Moved → (corrections : ℕ) → Appointment → Appointment
numbered_appointment moved corrections a = record a { item = numbered_or_lost moved a.item; revision = later_by corrections a.revision }
