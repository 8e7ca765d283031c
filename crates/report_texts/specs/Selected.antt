-- Items of what is due and judges' bookings, with the numbers that deadlines and motions keep.
use Rattle.std.specs.Prelude.{ℕ, List, map, Option, option_map}
use Rattle.docket_selection.specs.declared.bookings.DayBookings.{DayBookings}
use Rattle.docket_selection.specs.declared.calendars.JudgeCalendar.{JudgeCalendar}
use Rattle.docket_selection.specs.declared.item.DueItem.{DueItem}
use Rattle.docket_selection.specs.declared.item.Matter.{Matter}
use Rattle.docket_selection.specs.declared.item.Matter.TheVariants as matter
use Rattle.docket_selection.specs.declared.pending.PendingItem.{PendingItem}
use Rattle.docket_rows.specs.declared.command.Counted.{Counted}
use Rattle.docket_rows.specs.declared.command.Counted.TheVariants.{Deadline, Motion}
use Rattle.desk_numbers.specs.declared.moved.Moved.{Moved}
use Rattle.desk_numbers.specs.Words.{number_in, numbered_booking, numbered_ended}

-- what the number of an item is the number of
abbrev pub counted_in : Matter → Counted
counted_in (matter.Deadline d) = Deadline
counted_in (matter.Hearing h) = Motion

-- what there is, with the number of the motion that suspends its deadline
abbrev pub numbered_matter : List Moved → (case : ℕ) → Matter → Matter
numbered_matter moved case (matter.Deadline d) = matter.Deadline (record d { ended = numbered_ended moved case d.ended })
numbered_matter moved case (matter.Hearing h) = matter.Hearing h

-- an item with the number of its deadline or its motion
abbrev pub numbered_item : List Moved → DueItem → DueItem
numbered_item moved item =
    record item { number = number_in moved item.case (counted_in item.matter) item.number; matter = numbered_matter moved item.case item.matter }

-- the bookings of a judge, and those on a day, with the numbers of their motions
abbrev pub numbered_calendar : List Moved → JudgeCalendar → JudgeCalendar
numbered_calendar moved c = record c { bookings = map (numbered_booking moved) c.bookings }

abbrev pub numbered_day : List Moved → DayBookings → DayBookings
numbered_day moved d = record d { bookings = map (numbered_booking moved) d.bookings }

-- a motion's place, where there is one, as its number
abbrev pub motion_numbered : List Moved → (case : ℕ) → (motion : Option ℕ) → Option ℕ
motion_numbered moved case motion = option_map (number_in moved case Motion) motion

-- what has been pending for long, with the number of its motion
abbrev pub numbered_pending : List Moved → PendingItem → PendingItem
numbered_pending moved item = record item { motion = motion_numbered moved item.case item.motion }
