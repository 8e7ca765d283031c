use Rattle.std.proofs.Common.{◌≡◌, map}
use Rattle.report_texts.specs.Selected.{numbered_day}
use Rattle.desk_numbers.proofs.CallerLemmas.{changed_up_to}
use Rattle.report_texts.proofs.selected.bookings.number_days.Given as goal

-- the first have their numbers, and the others are as they were
abbrev pub invariant-list : goal.invariant-list
invariant-list l = changed_up_to (numbered_day l.moved) l.days l.day-index ≡ map (numbered_day l.moved) l.initial.days
