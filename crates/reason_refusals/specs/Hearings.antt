-- Why a hearing is refused, or a holiday because of one.
use Rattle.std.specs.Prelude.{ℕ, ◌+◌, ◌*◌, ◌==◌, ℤ, pos, ◌-ℤ◌, List, [], ◌++◌, Option, Some, None, codes, if◌then◌else◌}
use Rattle.std.specs.Fmt.{decimal}
use Rattle.court_clock.specs.Words.{ClockView, is_day_number, later_day, weekday_of}
use Rattle.court_days.specs.Words.{DaysView, is_among}
use Rattle.hearing_slots.specs.declared.need.Need.{Need}
use Rattle.hearing_slots.specs.declared.need.Need.TheVariants as need
use Rattle.docket_rows.specs.declared.hearing.Hearing.{Hearing}
use Rattle.docket_rows.specs.declared.hearing.Setting.{Setting}
use Rattle.docket_rows.specs.declared.sheet.SheetHearing.{SheetHearing}
use Rattle.docket_rows.specs.declared.sheet.SheetMotion.{SheetMotion}
use Rattle.reason_texts.specs.Words.{legal_text, minute_time, note_line}

-- why the court doesn't sit on a day; of several causes the first is given
abbrev pub closed_text : DaysView → ℤ → List ℕ
closed_text c day =
    if weekday_of day == 5 then codes "Saturday"
    else if weekday_of day == 6 then codes "Sunday"
    else if is_among c.federal day then legal_text day
    else if is_among c.state day then codes "legal holiday of the state"
    else codes "clerk's office inaccessible"

-- Here the court doesn't sit on a holiday of the state; the Rules don't say so.
abbrev pub other_closed_line : DaysView → ℤ → List ℕ
other_closed_line c day =
    if weekday_of day == 5 then []
    else if weekday_of day == 6 then []
    else if is_among c.federal day then []
    else if is_among c.state day then note_line (Some day) (codes "other reading: the court may sit on it") (codes "ours")
    else []

abbrev pub closed_lines : DaysView → Option Setting → List ℕ
closed_lines c (Some s) = note_line (Some s.day) (closed_text c s.day) (codes "ours") ++ other_closed_line c s.day
closed_lines c None = []

-- `the office is open from 08:30 to 17:00`
abbrev pub hours_text : ClockView → List ℕ
hours_text clock = codes "the office is open from " ++ minute_time clock.opens ++ codes " to " ++ minute_time clock.closes

-- a day before a day, if it is one
abbrev pub day_before : ℤ → ℕ → Option ℤ
day_before day n = if is_day_number (day -ℤ pos n) then Some (day -ℤ pos n) else None

-- `day 14 before the hearing, every day counted`
abbrev pub counted_text : ℕ → List ℕ
counted_text n = codes "day " ++ decimal n ++ codes " before the hearing, every day counted"

-- The day that is counted backward from the hearing; the day on which the motion and the notice had to be served at the latest,
-- which is an earlier one where that day isn't open (Fed. R. Civ. P. 6(a)(5)); and the later of the two services, which is too
-- late.
unfoldable pub notice_lines : Setting → (latest : ℤ) → SheetMotion → ℕ → List ℕ
notice_lines s latest motion n =
    note_line (day_before s.day n) (counted_text n) (codes "6(c)(1), 6(a)(1)(B)") ++ note_line (Some latest) (codes "the last day to serve motion and notice") (codes "6(a)(1)(C), 6(a)(5)") ++ note_line (Some (later_day motion.served s.notice)) (codes "served on this day, too late") (codes "6(c)(1)")

abbrev pub short_lines_by : Setting → (latest : ℤ) → SheetMotion → Need → List ℕ
short_lines_by s latest motion (need.Days n) = notice_lines s latest motion n
short_lines_by s latest motion need.ExParte = []

abbrev pub short_lines : Option Setting → (latest : ℤ) → Option SheetMotion → List ℕ
short_lines (Some s) latest (Some motion) = short_lines_by s latest motion motion.need
short_lines s latest motion = []

-- slot s begins at minute 15·s
abbrev pub slot_time : ℕ → List ℕ
slot_time s = minute_time (15 * s)

-- `case 1 motion 2 has the judge, 10:00 to 11:00`, of a motion that is called so
unfoldable pub taken_text : (called words : List ℕ) → Hearing → List ℕ
taken_text called words h =
    called ++ words ++ slot_time h.first ++ codes " to " ++ slot_time (h.first + h.count)

abbrev pub taken_by : (called words : List ℕ) → Option SheetHearing → List ℕ
taken_by called words (Some h) = note_line (Some h.hearing.day) (taken_text called words h.hearing) (codes "ours")
taken_by called words None = []

-- the hearing that is set for a motion
abbrev pub taken_line : (called words : List ℕ) → Option SheetMotion → List ℕ
taken_line called words (Some m) = taken_by called words m.hearing
taken_line called words None = []

-- when the notice of that hearing was served, the later of motion and notice
abbrev pub lost_by : SheetMotion → Option SheetHearing → List ℕ
lost_by m (Some h) = note_line (Some (later_day m.served h.hearing.notice)) (codes "its notice was served then, too late with it") (codes "6(c)(1), 6(a)(5)")
lost_by m None = []

abbrev pub lost_line : Option SheetMotion → List ℕ
lost_line (Some m) = lost_by m m.hearing
lost_line None = []
