-- What a hearing asks: its judges, its slots, its day, and its notice (Fed. R. Civ. P. 6(c)(1)).
use Rattle.std.specs.Prelude.{ℕ, ◌+◌, ◌*◌, ◌==◌, ℤ, int_lt, nat_le, nat_lt, Bool, true, false, ◌&&◌, ◌||◌, not, is_some, is_none, List, [], ◌∷◌, length, map, Option, Some, None, if◌then◌else◌}
use Rattle.std.specs.List.{list_all, flat_map, range_with_len}
use Rattle.std.specs.Option.{option_map_or, option_and_then}
use Rattle.court_clock.specs.declared.direction.Direction.TheVariants.{After}
use Rattle.court_clock.specs.Words.{ClockView}
use Rattle.court_days.specs.Words.{DaysView, is_permitted, has_outage}
use Rattle.rule_periods.specs.Words.{first_of, notice_of}
use Rattle.hearing_slots.specs.declared.booking.Booking.{Booking}
use Rattle.hearing_slots.specs.declared.need.Need.{Need}
use Rattle.hearing_slots.specs.declared.need.Need.TheVariants as need
use Rattle.hearing_slots.specs.Words.{first_conflict}
use Rattle.docket_rows.specs.declared.hearing.Hearing.{Hearing}
use Rattle.docket_rows.specs.declared.hearing.Setting.{Setting}
use Rattle.docket_rows.specs.CourtSetup.{CourtSetup}
use Rattle.docket_rows.specs.Parts.{Parts, sits}

-- the hearing that is asked for
abbrev pub hearing_asked : Setting → Hearing
hearing_asked s = record { judges = s.judges; room = s.room; day = s.day; first = s.first; count = s.count; notice = s.notice }

-- every judge of the panel is one of the court's
abbrev pub has_judges : CourtSetup → (panel : List ℕ) → Bool
has_judges setup panel = list_all (λ j. nat_lt j setup.judges) panel

-- no judge is named twice
abbrev pub is_distinct : List ℕ → Bool
is_distinct [] = true
is_distinct (j ∷ js) = not (sits j js) && is_distinct js

-- a panel has one to three judges, none of them twice
abbrev pub is_panel : List ℕ → Bool
is_panel panel = nat_le 1 (length panel) && nat_le (length panel) 3 && is_distinct panel

-- at least one slot, and none past the last of the day, which has 96
abbrev pub fits_day : (first count : ℕ) → Bool
fits_day first count = nat_le 1 count && nat_le (first + count) 96

-- a day on which the court hears motions: no Saturday, Sunday or legal holiday, and without an outage
abbrev pub is_court_day : DaysView → ℤ → Bool
is_court_day days day = is_permitted days After day && not (has_outage days day)

-- the hearing begins when the clerk's office is open, and ends before it closes; slot s begins at minute 15·s
abbrev pub is_within_hours : ClockView → (first count : ℕ) → Bool
is_within_hours clock first count = nat_le clock.opens (15 * first) && nat_le (15 * (first + count)) clock.closes

-- a motion needs a notice of 1 to 365 days
abbrev pub is_notice_length : ℕ → Bool
is_notice_length n = nat_le 1 n && nat_le n 365

-- a notice of such a length, or none
abbrev pub is_need : Need → Bool
is_need need.ExParte = true
is_need (need.Days n) = is_notice_length n

-- the last day on which a motion that needs n days, and the notice of its hearing, can be served (6(c)(1))
abbrev pub last_service : DaysView → (hearing : ℤ) → (n : ℕ) → Option ℤ
last_service days hearing n = if is_notice_length n then notice_of days hearing n else None

-- no covered day qualifies as that day; a motion that may be heard ex parte needs none
abbrev pub lacks_last_service : DaysView → (hearing : ℤ) → Need → Bool
lacks_last_service days hearing need.ExParte = false
lacks_last_service days hearing (need.Days n) = is_none (last_service days hearing n)

-- that day, where the motion or the notice was served after it
abbrev pub missed_service : DaysView → (hearing : ℤ) → Need → (served : ℤ) → Option ℤ
missed_service days hearing need.ExParte served = None
missed_service days hearing (need.Days n) served =
    option_and_then (λ latest. if int_lt latest served then Some latest else None) (last_service days hearing n)

-- the first booking that clashes with the hearing, of the first judge of the panel who has one; the booking of the
-- excepted case and motion clashes with nothing
abbrev pub judge_clash : Parts → Option (ℕ × ℕ) → Hearing → Option Booking
judge_clash parts except h = first_of (map (λ j. first_conflict (parts.judge j) h.day h.first h.count except) h.judges)

-- the first booking of the room that clashes with the hearing
abbrev pub room_clash : Parts → Option (ℕ × ℕ) → Hearing → Option Booking
room_clash parts except h = first_conflict (parts.room h.room) h.day h.first h.count except

-- the bookings of all judges of the court
abbrev pub all_booked : CourtSetup → Parts → List Booking
all_booked setup parts = flat_map parts.judge (range_with_len 0 setup.judges)

-- whether the first of two bookings is of the lesser case, or of the same case and no greater motion
abbrev pub comes_first : (a b : Booking) → Bool
comes_first a b = nat_lt a.case b.case || (a.case == b.case && nat_le a.motion b.motion)

abbrev pub lesser : (a b : Booking) → Booking
lesser a b = if comes_first a b then a else b

-- the first of some bookings by case and motion
abbrev pub least : List Booking → Option Booking
least [] = None
least (b ∷ bs) = Some (option_map_or (lesser b) (least bs) b)

-- the notice of a booked hearing wasn't served in time by these days, or can't have been
abbrev pub lacks_notice : DaysView → Booking → Bool
lacks_notice days b = lacks_last_service days b.day b.need || is_some (missed_service days b.day b.need b.served)
