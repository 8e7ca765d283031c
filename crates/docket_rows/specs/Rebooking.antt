-- What a booking, a move, a cancellation or a ruling does to the calendars of judges and rooms.
use Rattle.std.specs.Prelude.{ℕ, ℤ, ◌==◌, Bool, true, false, List, Option, Some, None, option_map, if◌then◌else◌}
use Rattle.std.specs.Option.{option_and_then, option_map_or}
use Rattle.court_clock.specs.Words.{later_day}
use Rattle.hearing_slots.specs.declared.booking.Booking.{Booking}
use Rattle.hearing_slots.specs.declared.need.Need.TheVariants.{ExParte}
use Rattle.hearing_slots.specs.Words.{with_booking, without_motion}
use Rattle.docket_rows.specs.declared.command.Command.{Command}
use Rattle.docket_rows.specs.declared.command.HearingOrder.{HearingOrder}
use Rattle.docket_rows.specs.declared.hearing.Hearing.{Hearing}
use Rattle.docket_rows.specs.declared.hearing.Setting.{Setting}
use Rattle.docket_rows.specs.declared.rebooking.CalendarChange.{CalendarChange}
use Rattle.docket_rows.specs.declared.rebooking.CalendarChange.TheVariants.{Stays, Put, TakeOut}
use Rattle.docket_rows.specs.declared.rebooking.Placement.{Placement}
use Rattle.docket_rows.specs.declared.rebooking.Rebooking.{Rebooking}
use Rattle.docket_rows.specs.Cases.{NumberedMotion}
use Rattle.docket_rows.specs.Hearings.{hearing_asked}
use Rattle.docket_rows.specs.Parts.{Parts, sits, first_judge}
use Rattle.docket_rows.specs.Seen.{has_one, motion_in, hearing_in, if_ahead}
use Rattle.docket_rows.specs.Subject.{order_of}

-- the booking of the hearing that is asked for: `other` is the number of its room in a judge's calendar, and of its first
-- judge in the room's
abbrev pub booking_of : Parts → (other : ℕ) → Setting → Booking
booking_of parts other s = record {
  case = s.case;
  motion = s.motion;
  other = other;
  day = s.day;
  first = s.first;
  count = s.count;
  need = option_map_or (λ (m : NumberedMotion). m.need) (motion_in parts s.case s.motion) ExParte;
  served = option_map_or (λ (m : NumberedMotion). later_day m.served s.notice) (motion_in parts s.case s.motion) s.notice;
}

-- a hearing that is asked for, with its bookings
abbrev pub placement_of : Parts → Setting → Placement
placement_of parts s = record {
  hearing = hearing_asked s;
  with_room = booking_of parts s.room s;
  with_judge = booking_of parts (first_judge s.judges) s;
}

-- the hearing that is taken off, of the one that is set: it, or only where it is later than a day
abbrev pub taken_off : (later_than : Option ℤ) → (set : Option Hearing) → Option Hearing
taken_off None set = set
taken_off (Some day) set = if_ahead day set

-- which hearing of its motion an order takes off the calendar, and which it puts on it
abbrev pub rebooking_by : Parts → HearingOrder → Rebooking
rebooking_by parts order = record {
  case = order.case;
  motion = order.motion;
  before = taken_off order.later_than (hearing_in parts order.case order.motion);
  after = option_map (placement_of parts) order.setting;
}

-- the same for a command; none where it is about no hearing
abbrev pub rebooking_of : Parts → Command → Option Rebooking
rebooking_of parts command = option_map (rebooking_by parts) (order_of command)

-- a calendar after its change, where it doesn't stay as it is
abbrev pub changed_by : CalendarChange → List Booking → Option (List Booking)
changed_by Stays bookings = None
changed_by (Put b) bookings = Some (with_booking b bookings)
changed_by (TakeOut case motion) bookings = Some (without_motion case motion bookings)

-- the change of a calendar that may have the motion's hearing now: the booking that belongs into it is put in, and where
-- none does, the one that it has is taken out
abbrev pub change_to : (case motion : ℕ) → (has_one_now : Bool) → Option Booking → CalendarChange
change_to case motion has_one_now (Some b) = Put b
change_to case motion true None = TakeOut case motion
change_to case motion false None = Stays

-- the change of the calendar of a judge, and of a room
abbrev pub judge_change : Rebooking → (judge : ℕ) → CalendarChange
judge_change r judge =
    change_to r.case r.motion
    (has_one (λ (h : Hearing). sits judge h.judges) r.before)
    (option_and_then (λ (p : Placement). if sits judge p.hearing.judges then Some p.with_room else None) r.after)

abbrev pub room_change : Rebooking → (room : ℕ) → CalendarChange
room_change r room =
    change_to r.case r.motion
    (has_one (λ (h : Hearing). h.room == room) r.before)
    (option_and_then (λ (p : Placement). if p.hearing.room == room then Some p.with_judge else None) r.after)
