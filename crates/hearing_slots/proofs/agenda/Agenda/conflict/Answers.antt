use Rattle.std.proofs.Common.{◌∙◌, ap}
use Rattle.std.specs.List.{find}
use Rattle.hearing_slots.specs.Booking.{is_on}
use Rattle.hearing_slots.specs.Calendar.{conflicts, first_conflict}
use Rattle.hearing_slots.proofs.Filters.{find-filter}
use Rattle.hearing_slots.proofs.Order.{conflicts-on_day}
use Rattle.hearing_slots.proofs.agenda.Agenda.conflict.Goals as goal

-- what the search of the day finds is what a search of all bookings finds
pub returns : goal.returns
unfolding first_conflict
returns c =
    let test = conflicts c.args.day c.args.first c.args.count c.args.except in
    c.first_of.ensures
    ∙ ap (find test) c.on_day.ensures
    ∙ find-filter test (is_on c.args.day) (conflicts-on_day c.args.day c.args.first c.args.count c.args.except) c.args.self.now
