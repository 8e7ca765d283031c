use Rattle.std.proofs.Common.{◌≡◌, ◌∙◌, Some, List, ap, subst, sym}
use Rattle.hearing_slots.specs.declared.booking.Booking.{Booking}
use Rattle.hearing_slots.specs.Calendar.{IsCalendar, IsFree, with_booking}
use Rattle.hearing_slots.specs.Inside.Blocks.{all_in}
use Rattle.hearing_slots.specs.Inside.DayNotes.{NotesDays}
use Rattle.hearing_slots.proofs.BlockDays.{free_of_either, with_either}
use Rattle.hearing_slots.proofs.Holdings.{booking_keeps}
use Rattle.hearing_slots.proofs.DayNoteLemmas.{days_with}
use Rattle.hearing_slots.proofs.blocks.Blocks.with.Goals as goal

pub put-requires-clause-free : goal.put-requires-clause-free
put-requires-clause-free c =
    let b = c.args.booking in
    free_of_either b c.args.self.now (all_in c.in_ok-blocks.blocks.items) c.in_ok-blocks.ensures.all c.requires.free

-- all bookings with the new one
all : (c : goal.In_ok-notes) → all_in c.put.new.blocks.items ≡ with_booking c.args.booking (all_in c.self.inside.blocks.items)
all c = c.in_ok-put.ensures.all ∙ with_either c.args.booking c.args.self.now (all_in c.in_ok-blocks.blocks.items) c.in_ok-blocks.ensures.all ∙ ap (with_booking c.args.booking) (sym c.self.view_is)

pub invariant_of-result : goal.invariant_of-result
invariant_of-result c =
    let b = c.args.booking in
    let old = all_in c.self.inside.blocks.items in
    let free = subst (λ (bookings : List Booking). IsFree bookings b.day b.first b.count (Some (b.case, b.motion))) (sym c.self.view_is) c.requires.free in (
      c.in_ok-put.ensures.blocks,
      subst IsCalendar (sym (all c)) (booking_keeps b old c.self.invariant.1 c.requires.within_day free),
      subst (λ (bookings : List Booking). NotesDays bookings c.in_ok-notes.notes) (sym (all c)) (days_with b old c.self.inside.notes c.in_ok-notes.notes c.self.invariant.1 c.self.invariant.2 c.in_ok-notes.ensures),
    )

pub returns : goal.returns
returns c = all c ∙ ap (with_booking c.args.booking) c.self.view_is
