use Rattle.std.proofs.Common.{◌≡◌, map}
use Rattle.report_program.specs.Appointments.{numbered_appointment}
use Rattle.desk_numbers.proofs.CallerLemmas.{changed_up_to}
use Rattle.report_program.proofs.appointments.number_appointments.Given as goal

-- the first have their numbers, and the others are as they were
abbrev pub invariant-list : goal.invariant-list
invariant-list l = changed_up_to (numbered_appointment l.moved l.corrections) l.appointments l.appointment-index ≡ map (numbered_appointment l.moved l.corrections) l.initial.appointments
