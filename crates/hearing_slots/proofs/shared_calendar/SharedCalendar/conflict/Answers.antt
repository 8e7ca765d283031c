use Rattle.std.proofs.Common.{◌≡◌, ◌∙◌, [], None}
use Rattle.hearing_slots.specs.Calendar.{first_conflict}
use Rattle.hearing_slots.proofs.BlockDays.{first_conflict-on_day}
use Rattle.hearing_slots.proofs.Conflicts.{first_conflict-Some, first_conflict-None}
use Rattle.hearing_slots.proofs.shared_calendar.SharedCalendar.conflict.Goals as goal

-- where the block of the day has no bookings, none is found
none : (c : goal.In-None) → None ≡ first_conflict c.args.self.now c.args.day c.args.first c.args.count c.args.except
unfolding first_conflict
none c = first_conflict-on_day [] c.args.self.now c.args.day c.args.first c.args.count c.args.except c.in-None.ensures.value

pub returns-in-None-clause-value : goal.returns-in-None-clause-value
returns-in-None-clause-value c = none c

pub returns-in-None-clause-none : goal.returns-in-None-clause-none
returns-in-None-clause-none c = first_conflict-None c.args.self.now c.args.day c.args.first c.args.count c.args.except None (none c)

-- what is found in the block of the day is what would be found in all
found : (c : goal.After-conflict) → c.conflict.result ≡ first_conflict c.args.self.now c.args.day c.args.first c.args.count c.args.except
found c =
    c.conflict.ensures
    ∙ first_conflict-on_day c.in-Some.agenda.now c.args.self.now c.args.day c.args.first c.args.count c.args.except c.in-Some.ensures.value

pub returns-in-Some-clause-value : goal.returns-in-Some-clause-value
returns-in-Some-clause-value c = found c

pub returns-in-Some-clause-some : goal.returns-in-Some-clause-some
returns-in-Some-clause-some c = first_conflict-Some c.args.self.now c.args.day c.args.first c.args.count c.args.except c.in-Some.ensures.calendar c.requires.some_slot c.conflict.result (found c)

pub returns-in-Some-clause-none : goal.returns-in-Some-clause-none
returns-in-Some-clause-none c = first_conflict-None c.args.self.now c.args.day c.args.first c.args.count c.args.except c.conflict.result (found c)
