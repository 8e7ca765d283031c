-- The parts of a docket, which commands read and write: what each is of the rows, and of the parts that were read.
use Rattle.std.specs.Prelude.{ℕ, ◌==◌, nat_eq, ℤ, Bool, true, false, List, [], map, filter, find, Option, Some, None, option_map, unwrap_or, slice_index}
use Rattle.std.specs.List.{list_any}
use Rattle.std.specs.Map.{lookup}
use Rattle.std.specs.Option.{option_map_or, option_and_then}
use Rattle.court_clock.specs.Words.{later_day}
use Rattle.court_days.specs.Words.{DaysView}
use Rattle.hearing_slots.specs.declared.booking.Booking.{Booking}
use Rattle.hearing_slots.specs.declared.need.Need.{Need}
use Rattle.hearing_slots.specs.declared.need.Need.TheVariants.{ExParte}
use Rattle.hearing_slots.specs.Words.{in_order}
use Rattle.docket_rows.specs.declared.fact.Fact.{Fact}
use Rattle.docket_rows.specs.declared.hearing.Hearing.{Hearing}
use Rattle.docket_rows.specs.declared.part.PartId.{PartId}
use Rattle.docket_rows.specs.declared.part.PartId.TheVariants.{Court, Judge, Room, Case}
use Rattle.docket_rows.specs.declared.part.PartValue.{PartValue}
use Rattle.docket_rows.specs.declared.part.PartValue.TheVariants as value
use Rattle.docket_rows.specs.CourtSetup.{CourtSetup}
use Rattle.docket_rows.specs.Cases.{CaseRecordView, NumberedDeadline, NumberedMotion}
use Rattle.docket_rows.specs.Rows.{Rows, DocketedCase, DocketedDeadline, DocketedMotion, DocketedHearing, DocketedFact, is_case, is_deadline_in, is_motion_in, is_motion, is_hearing, is_fact_in}

-- the days of the court, each case that is open, and the calendar of each judge and each room
pub record Parts : Type 0 where
  pub days : DaysView
  pub case : ℕ → Option CaseRecordView
  pub judge : ℕ → List Booking
  pub room : ℕ → List Booking

-- The parts of the rows.

-- the hearing that is set for the motion
abbrev pub hearing_of : Rows → (case motion : ℕ) → Option Hearing
hearing_of rows case motion = option_map (λ (h : DocketedHearing). h.hearing) (find (is_hearing case motion) rows.hearings)

-- a deadline and a motion, as its case shows it
abbrev pub deadline_shown : DocketedDeadline → NumberedDeadline
deadline_shown d = record { number = d.number; row = d.row }

abbrev pub motion_shown : Rows → DocketedMotion → NumberedMotion
motion_shown rows m = record { number = m.number; served = m.served; need = m.need; hearing = hearing_of rows m.case m.number }

-- a fact, which its case shows as it is recorded
abbrev pub fact_shown : DocketedFact → Fact
fact_shown f = f.fact

-- what is recorded of the case
abbrev pub facts_of : Rows → (case : ℕ) → List Fact
facts_of rows case = map fact_shown (filter (is_fact_in case) rows.facts)

-- a case with the rows of its number
abbrev pub case_shown : Rows → DocketedCase → CaseRecordView
case_shown rows c = record {
  filed = c.filed;
  deadlines = map deadline_shown (filter (is_deadline_in c.case) rows.deadlines);
  motions = map (motion_shown rows) (filter (is_motion_in c.case) rows.motions);
  facts = facts_of rows c.case;
}

-- what notice a motion needs, and the later of the days on which it and the notice of its hearing were served
abbrev pub need_of : Rows → (case motion : ℕ) → Need
need_of rows case motion = option_map_or (λ (m : DocketedMotion). m.need) (find (is_motion case motion) rows.motions) ExParte

abbrev pub last_served : Rows → (case motion : ℕ) → (notice : ℤ) → ℤ
last_served rows case motion notice = option_map_or (λ (m : DocketedMotion). later_day m.served notice) (find (is_motion case motion) rows.motions) notice

-- the judge is in the panel
abbrev pub sits : (judge : ℕ) → (panel : List ℕ) → Bool
sits judge panel = list_any (nat_eq judge) panel

-- the first judge of a panel, who stands for it in the calendar of a room
abbrev pub first_judge : (panel : List ℕ) → ℕ
first_judge panel = slice_index panel 0

-- the booking of a hearing, with the number of its room in a judge's calendar, and of its first judge in the room's
abbrev pub booked : Rows → (other : ℕ) → DocketedHearing → Booking
booked rows other h = record {
  case = h.case;
  motion = h.motion;
  other = other;
  day = h.hearing.day;
  first = h.hearing.first;
  count = h.hearing.count;
  need = need_of rows h.case h.motion;
  served = last_served rows h.case h.motion h.hearing.notice;
}

-- the hearings of a judge, by day and first slot, and those of a room
abbrev pub judge_calendar : Rows → ℕ → List Booking
judge_calendar rows judge = in_order (map (λ h. booked rows h.hearing.room h) (filter (λ h. sits judge h.hearing.judges) rows.hearings))

abbrev pub room_calendar : Rows → ℕ → List Booking
room_calendar rows room = in_order (map (λ h. booked rows (first_judge h.hearing.judges) h) (filter (λ h. h.hearing.room == room) rows.hearings))

unfoldable pub parts_of : Rows → Parts
parts_of rows = record {
  days = rows.days;
  case = λ case. option_map (case_shown rows) (find (is_case case) rows.cases);
  judge = judge_calendar rows;
  room = room_calendar rows;
}

-- what a part holds
abbrev pub part_value : Parts → PartId → PartValue
part_value parts Court = value.Days parts.days
part_value parts (Judge judge) = value.Calendar (parts.judge judge)
part_value parts (Room room) = value.Calendar (parts.room room)
part_value parts (Case case) = value.Case (parts.case case)

-- The parts that a command sees when it has read some of them.

-- the two name one part
abbrev pub same_part : (x y : PartId) → Bool
same_part Court Court = true
same_part (Judge j) (Judge k) = j == k
same_part (Room r) (Room s) = r == s
same_part (Case c) (Case d) = c == d
same_part _ _ = false

-- what was read of the part
abbrev pub read_of : List (PartId × PartValue) → PartId → Option PartValue
read_of reads part = lookup (same_part part) reads

-- a value as days, as a calendar and as a case; a value of another kind is none of it
abbrev pub days_in : PartValue → Option DaysView
days_in (value.Days days) = Some days
days_in _ = None

abbrev pub calendar_in : PartValue → Option (List Booking)
calendar_in (value.Calendar bookings) = Some bookings
calendar_in _ = None

abbrev pub case_in : PartValue → Option CaseRecordView
case_in (value.Case case) = case
case_in _ = None

-- The parts by what was read. Where the court's days weren't read, they are those of its file; a calendar that wasn't
-- read has no bookings, and a case that wasn't read isn't open.
unfoldable pub parts_read : CourtSetup → List (PartId × PartValue) → Parts
parts_read setup reads = record {
  days = unwrap_or (option_and_then days_in (read_of reads Court)) setup.days;
  case = λ case. option_and_then case_in (read_of reads (Case case));
  judge = λ judge. unwrap_or (option_and_then calendar_in (read_of reads (Judge judge))) [];
  room = λ room. unwrap_or (option_and_then calendar_in (read_of reads (Room room))) [];
}
