use Rattle.std.proofs.Common.{◌≡◌, ◌∙◌, List, ap, subst, sym}
use Rattle.hearing_slots.specs.declared.booking.Booking.{Booking}
use Rattle.hearing_slots.specs.Calendar.{IsCalendar, without_motion}
use Rattle.hearing_slots.specs.Inside.Blocks.{BlockView, LiesIn, all_in, block_of}
use Rattle.hearing_slots.specs.Inside.DayNotes.{NotesDays, booked_day}
use Rattle.hearing_slots.proofs.BlockDays.{LiesIn-booked}
use Rattle.hearing_slots.proofs.Holdings.{removal_keeps}
use Rattle.hearing_slots.proofs.DayNoteLemmas.{days_without}
use Rattle.hearing_slots.proofs.blocks.Blocks.without.Goals as goal

pub take_out-requires-clause-gone : goal.take_out-requires-clause-gone
take_out-requires-clause-gone c =
    let same = c.in_ok-blocks.ensures ∙ c.deref.ensures.value in
    let day = ap (booked_day c.args.case c.args.motion) c.self.view_is ∙ c.requires in
    subst (λ (bs : List BlockView). LiesIn (block_of c.args.day) c.args.case c.args.motion (all_in bs)) (sym same) (LiesIn-booked c.args.case c.args.motion (all_in c.self.inside.blocks.items) c.args.day c.self.invariant.1 day)

-- all bookings without the motion's
all : (c : goal.In_ok-notes) → all_in c.take_out.new.blocks.items ≡ without_motion c.args.case c.args.motion (all_in c.self.inside.blocks.items)
all c = c.in_ok-take_out.ensures.all ∙ ap (λ (bs : List BlockView). without_motion c.args.case c.args.motion (all_in bs)) (c.in_ok-blocks.ensures ∙ c.deref.ensures.value)

pub invariant_of-result : goal.invariant_of-result
invariant_of-result c =
    let old = all_in c.self.inside.blocks.items in (
      c.in_ok-take_out.ensures.blocks,
      subst IsCalendar (sym (all c)) (removal_keeps c.args.case c.args.motion old c.self.invariant.1),
      subst (λ (bookings : List Booking). NotesDays bookings c.in_ok-notes.notes) (sym (all c)) (days_without c.args.case c.args.motion old c.self.inside.notes c.in_ok-notes.notes c.self.invariant.2 c.in_ok-notes.ensures),
    )
