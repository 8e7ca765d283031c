use Rattle.std.proofs.Common.{◌≡◌, map}
use Rattle.report_texts.specs.Selected.{numbered_calendar}
use Rattle.desk_numbers.proofs.CallerLemmas.{changed_up_to}
use Rattle.report_texts.proofs.selected.bookings.number_calendars.Given as goal

-- the first have their numbers, and the others are as they were
abbrev pub invariant-list : goal.invariant-list
invariant-list l = changed_up_to (numbered_calendar l.moved) l.calendars l.calendar-index ≡ map (numbered_calendar l.moved) l.initial.calendars
