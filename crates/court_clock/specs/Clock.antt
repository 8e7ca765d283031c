-- What the court's clock shows at an instant, and the instant at which it shows a civil time.
pub mod Minute
pub mod Zone
pub mod Stretch
use Rattle.std.specs.Prelude.{◌≡◌, ◌<◌, ℕ, ℤ, pos, neg_ℤ, ◌+ℤ◌, ◌-ℤ◌, ◌*ℤ◌, ◌≤ℤ◌, int_le, Bool, true, false, ◌&&◌, unsigned_abs, Option, Some, None, if◌then◌else◌}
use Rattle.std.specs.Int.{int_div_euclid, int_rem_euclid}
use Rattle.std.specs.Ordering.{int_eq}
use Rattle.jiff_core.specs.Timestamp.{nanos_of_seconds}
use Rattle.jiff_tz.specs.PosixRule.{match_some}
use Rattle.jiff_tz.specs.Zone.{offset_at}
use Rattle.jiff_tz.specs.declared.timezone.TimeZone.{TimeZone}
use Rattle.jiff_tz.specs.declared.timezone.TimeZone.TheVariants.{UTC, Unknown, Fixed, Posix, Tzif}

-- the numbers that an instant may have, in seconds: some 304 years to either side of 1970-01-01T00:00Z
pub record IsInstantSecond (t : ℤ) : Type 0 where
  pub low : neg_ℤ (pos 9_600_000_000) ≤ℤ t
  pub high : t ≤ℤ pos 9_600_000_000

-- A court's time zone, the minutes of the day at which the clerk's office opens and closes, and the minute to which electronic filing
-- runs on a last day, where a local rule sets one. Without one it runs to midnight (Fed. R. Civ. P. 6(a)(4)(A)).
pub record ClockView : Type 0 where
  pub zone : TimeZone
  pub opens : ℕ
  pub closes : ℕ
  pub efiling_until : Option ℕ

-- the clock with such a minute
abbrev pub with_efiling_until : ℕ → ClockView → ClockView
with_efiling_until minute clock = record clock { efiling_until = Some minute }

-- a day, and a second of it counted from midnight
pub record CivilTime : Type 0 where
  pub day : ℤ
  pub second : ℕ

-- how many seconds the clock is ahead of UTC at an instant
abbrev pub offset_seconds : TimeZone → ℤ → ℤ
offset_seconds zone t = offset_at zone (nanos_of_seconds t)

-- what the clock shows at an instant, in seconds from the midnight that begins 1970-01-01 on it
abbrev pub shown_second : TimeZone → ℤ → ℤ
shown_second zone t = t +ℤ offset_seconds zone t

-- a civil time in seconds from the same midnight
abbrev pub second_of : ℤ → ℕ → ℤ
second_of day second = day *ℤ pos 86_400 +ℤ pos second

-- the day and the time of day that the clock shows at an instant
unfoldable pub civil_time : TimeZone → ℤ → CivilTime
civil_time zone t = record {
  day = int_div_euclid (shown_second zone t) (pos 86_400);
  second = unsigned_abs (int_rem_euclid (shown_second zone t) (pos 86_400));
}

-- a number that a day may have
abbrev pub is_day_number : ℤ → Bool
is_day_number n = int_le (neg_ℤ (pos 110_000)) n && int_le n (pos 110_000)

-- the day and the time of day that the clock shows at an instant, if that day is a `Day`
unfoldable pub civil_of : TimeZone → ℤ → Option CivilTime
civil_of zone t = if is_day_number (civil_time zone t).day then Some (civil_time zone t) else None

-- the zone is one offset or a rule with standard and daylight saving time, as a court's file can name it
abbrev pub is_ruled : TimeZone → Bool
is_ruled UTC = true
is_ruled Unknown = true
is_ruled (Fixed offset) = true
is_ruled (Posix rule) = true
is_ruled (Tzif table) = false

-- the offset of standard time, which is the only one where there is no daylight saving time
abbrev pub standard_offset : TimeZone → ℤ
standard_offset UTC = pos 0
standard_offset Unknown = pos 0
standard_offset (Fixed offset) = offset.seconds
standard_offset (Posix rule) = rule.std_offset.seconds
standard_offset (Tzif table) = pos 0

-- the offset of daylight saving time, or else that of standard time
abbrev pub daylight_offset : TimeZone → ℤ
daylight_offset UTC = pos 0
daylight_offset Unknown = pos 0
daylight_offset (Fixed offset) = offset.seconds
daylight_offset (Posix rule) = match_some rule.dst rule.std_offset.seconds (λ dst. dst.offset.seconds)
daylight_offset (Tzif table) = pos 0

-- the larger of the zone's two offsets, and the smaller
abbrev pub larger_offset : TimeZone → ℤ
larger_offset zone = if int_le (standard_offset zone) (daylight_offset zone) then daylight_offset zone else standard_offset zone

abbrev pub smaller_offset : TimeZone → ℤ
smaller_offset zone = if int_le (standard_offset zone) (daylight_offset zone) then standard_offset zone else daylight_offset zone

-- The instant at which the clock shows a civil time: the one by the larger offset, which is the earlier, if the
-- clock then shows it, and else the one by the smaller offset.
unfoldable pub instant_of : TimeZone → ℤ → ℕ → ℤ
instant_of zone day second =
    if int_eq (shown_second zone (second_of day second -ℤ larger_offset zone)) (second_of day second)
    then second_of day second -ℤ larger_offset zone
    else second_of day second -ℤ smaller_offset zone

-- the clock shows this civil time at an instant
abbrev pub Shows : TimeZone → ℤ → ℕ → ℤ → Type 0
Shows zone day second t = civil_time zone t ≡ record { day = day; second = second }

-- r is the instant of a civil time: the least at which the clock shows it, or, where the clock jumps over it, the
-- one that is later by the gap
pub record IsInstantOf (zone : TimeZone) (day : ℤ) (second : ℕ) (r : ℤ) : Type 0 where
  pub shown : (t : ℤ) → Shows zone day second t → Shows zone day second r
  pub earliest : (t : ℤ) → Shows zone day second t → r ≤ℤ t
  pub shifted : ((t : ℤ) → ¬ Shows zone day second t) → r ≡ second_of day second -ℤ smaller_offset zone

-- what the instant of a civil time means
abbrev pub InstantsAreEarliest : Type 0
InstantsAreEarliest = (zone : TimeZone) (day : ℤ) (second : ℕ) → is_ruled zone ≡ true → second < 86_400 → IsInstantOf zone day second (instant_of zone day second)

-- the zone is one that a court's file can name, and the office opens before it closes
pub record IsClock (zone : TimeZone) (opens closes : ℕ) : Type 0 where
  pub ruled : is_ruled zone ≡ true
  pub ordered : opens < closes
  pub within_the_day : closes < 1440
