use Rattle.std.proofs.Common.{◌∙◌, ap, subst, sym}
use Rattle.std.specs.List.{find}
use Rattle.hearing_slots.specs.Booking.{is_of}
use Rattle.hearing_slots.specs.Calendar.{IsCalendar}
use Rattle.hearing_slots.proofs.Finds.{filter_absent}
use Rattle.hearing_slots.proofs.Holdings.{removal_keeps}
use Rattle.hearing_slots.proofs.Removals.{found_by_own, without_own}
use Rattle.hearing_slots.proofs.ordered.take_out_of.Goals as goal

pub returns-in_default-clause-items : goal.returns-in_default-clause-items
returns-in_default-clause-items c =
    let test = is_of c.args.case c.args.motion in
    sym (filter_absent test c.args.bookings.now.items (ap (find test) (sym c.deref.ensures.value) ∙ sym c.booking_of.ensures ∙ c.in_default.is))

pub take_out-requires-clause-stands : goal.take_out-requires-clause-stands
take_out-requires-clause-stands c =
    let test = is_of c.args.case c.args.motion in
    found_by_own c.args.case c.args.motion c.args.bookings.now.items c.in-Some.gone (ap (find test) (sym c.deref.ensures.value) ∙ sym c.booking_of.ensures ∙ c.in-Some.is)

pub returns-clause-items : goal.returns-clause-items
returns-clause-items c =
    let test = is_of c.args.case c.args.motion in
    c.take_out.ensures.items
    ∙ without_own c.args.case c.args.motion c.args.bookings.now.items c.in-Some.gone (ap (find test) (sym c.deref.ensures.value) ∙ sym c.booking_of.ensures ∙ c.in-Some.is)

pub returns-clause-calendar : goal.returns-clause-calendar
returns-clause-calendar c =
    let gone = c.in-Some.gone in
    subst IsCalendar (sym c.take_out.ensures.items) (removal_keeps gone.case gone.motion c.args.bookings.now.items c.requires)
