use Rattle.std.proofs.Common.{◌≡◌, ℤ, ◌∙◌, sym, ap, subst, Some, not, List}
use Rattle.std.specs.List.{find}
use Rattle.hearing_slots.specs.declared.booking.Booking.{Booking}
use Rattle.hearing_slots.specs.Booking.{is_of}
use Rattle.hearing_slots.specs.Calendar.{IsCalendar, on_day, without_motion}
use Rattle.hearing_slots.specs.Slots.{slots_taken}
use Rattle.hearing_slots.specs.Timetable.{TimetableView}
use Rattle.hearing_slots.proofs.CalendarLemmas.{IsCalendar-filter}
use Rattle.hearing_slots.proofs.DayLemmas.{on_day-without_motion, slots_taken-filter, marked_again}
use Rattle.hearing_slots.proofs.timetable.Timetable.take.Goals as goal

-- a calendar is left
left : (gone : Booking) (old new : List Booking) → IsCalendar old → new ≡ without_motion gone.case gone.motion old → IsCalendar new
left gone old new calendar items = subst IsCalendar (sym items) (IsCalendar-filter (λ b. not (is_of gone.case gone.motion b)) old calendar)

pub slots_on-left-requires : goal.slots_on-left-requires
slots_on-left-requires c = left c.args.gone c.self.inside.bookings.items c.deref.result.now c.self.invariant.0 (c.deref.ensures.value ∙ c.take_out.ensures.items)

pub lower-requires-clause-fewer : goal.lower-requires-clause-fewer
lower-requires-clause-fewer c =
    let gone = c.args.gone in
    let all = c.self.inside.bookings.items in
    let items : c.deref.result.now ≡ without_motion gone.case gone.motion all = c.deref.ensures.value ∙ c.take_out.ensures.items in
    λ none.
    c.slots_on-left.ensures
    ∙ ap (λ (bs : List Booking). slots_taken (on_day gone.day bs)) items
    ∙ slots_taken-filter (λ b. not (is_of gone.case gone.motion b)) gone.day all (sym (c.self.invariant.1.exact gone.day) ∙ none)

pub invariant_of-self : goal.invariant_of-self
invariant_of-self c =
    let gone = c.args.gone in
    let all = c.self.inside.bookings.items in
    let new = c.take_out.new.bookings.items in
    let stands : find (is_of gone.case gone.motion) all ≡ Some gone = ap (λ (t : TimetableView). find (is_of gone.case gone.motion) t.bookings) c.self.view_is ∙ c.requires in
    let here : c.slots_on-left.result ≡ slots_taken (on_day gone.day new) = c.slots_on-left.ensures ∙ ap (λ (bs : List Booking). slots_taken (on_day gone.day bs)) c.deref.ensures.value in
    let others : (q : ℤ) → (q ≡ gone.day → ⊥) → on_day q new ≡ on_day q all = λ q other. ap (on_day q) c.take_out.ensures.items ∙ on_day-without_motion gone.case gone.motion all gone q c.self.invariant.0 stands other in (
      left gone all new c.self.invariant.0 c.take_out.ensures.items,
      marked_again all new c.self.inside.days.items c.lower.new.days.items gone.day c.slots_on-left.result c.self.invariant.1 c.lower.ensures.marks here others,
    )

pub returns-clause-calendar : goal.returns-clause-calendar
returns-clause-calendar c = left c.args.gone c.self.inside.bookings.items c.take_out.new.bookings.items c.self.invariant.0 c.take_out.ensures.items
