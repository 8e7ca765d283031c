-- When the calendars of a docket can be changed by a booking, a move or a cancellation, and what they are after it.
use Rattle.std.specs.Prelude.{ℕ, ◌+◌, List, [], ◌∷◌, Some, IfSome, unwrap_or}
use Rattle.std.specs.Option.{option_and_then}
use Rattle.hearing_slots.specs.declared.booking.Booking.{Booking}
use Rattle.hearing_slots.specs.Words.{IsWithinDay, IsFree}
use Rattle.docket_rows.specs.declared.command.Command.{Command}
use Rattle.docket_rows.specs.declared.command.HearingOrder.{HearingOrder}
use Rattle.docket_rows.specs.declared.rebooking.CalendarChange.{CalendarChange}
use Rattle.docket_rows.specs.declared.rebooking.CalendarChange.TheVariants.{Put}
use Rattle.docket_rows.specs.Words.{Parts, order_of, changed_by}
use Rattle.docket_laws.specs.Words.{CanSet}

-- the hearing that a command sets can be set
abbrev pub CanRebook : Parts → Command → Type 0
CanRebook parts command = IfSome (option_and_then (λ (o : HearingOrder). o.setting) (order_of command)) (CanSet parts)

-- a calendar after its change
abbrev pub calendar_after : CalendarChange → List Booking → List Booking
calendar_after change bookings = unwrap_or (changed_by change bookings) bookings

-- a booking that is put in lies within its day, and its slots are free
abbrev pub CanChange : CalendarChange → List Booking → Type 0
CanChange (Put b) bookings = IsWithinDay b × IsFree bookings b.day b.first b.count (Some (b.case, b.motion))
CanChange _ bookings = Unit {0}

-- some calendars, numbered from `number` on, after the change of each
abbrev pub calendars_after : (number : ℕ) → (ℕ → CalendarChange) → List (List Booking) → List (List Booking)
calendars_after number change [] = []
calendars_after number change (c ∷ cs) = calendar_after (change number) c ∷ calendars_after (number + 1) change cs

-- each of them can be changed so
abbrev pub CanChangeAll : (number : ℕ) → (ℕ → CalendarChange) → List (List Booking) → Type 0
CanChangeAll number change [] = Unit {0}
CanChangeAll number change (c ∷ cs) = CanChange (change number) c × CanChangeAll (number + 1) change cs
