-- The court's time zone, as its file writes it.
use Rattle.std.specs.Prelude.{◌≡◌, ℕ, ◌*◌, ◌==◌, nat_lt, List, [], ◌∷◌, ℤ, pos, neg_ℤ, Option, Some, None, option_map, option_and_then, if◌then◌else◌}
use Rattle.jiff_tz.specs.declared.timezone.TimeZone.{TimeZone}
use Rattle.jiff_tz.specs.declared.timezone.TimeZone.TheVariants.{UTC, Unknown, Fixed, Posix, Tzif}
use Rattle.jiff_tz.specs.PosixText.{TzText, tz_view}
use Rattle.jiff_tz.specs.PosixReader.{read_whole}
use Rattle.court_clock.specs.Clock.{ClockView, daylight_offset, offset_seconds, standard_offset}
use Rattle.court_clock.specs.Clock.Minute.{minute_of_text}

-- one offset in seconds, east of Greenwich positive, or a POSIX rule
pub data Zone : Type 0 where
  offset : ℤ → Zone
  rule : TzText → Zone
  other : Zone

-- the minutes of an offset `hh:mm`, from 00:00 to 14:59
abbrev pub offset_minutes : List ℕ → Option ℕ
offset_minutes text = option_and_then (λ m. if nat_lt m 900 then Some m else None) (minute_of_text text)

-- the zone of a POSIX rule text, as jiff reads it
abbrev pub zone_of_rule : List ℕ → Option Zone
zone_of_rule text = option_map rule (read_whole text)

-- the zone that a text names: `+hh:mm` or `-hh:mm`, else a POSIX rule
abbrev pub zone_of_text : List ℕ → Option Zone
zone_of_text [] = zone_of_rule []
zone_of_text (sign ∷ rest) =
    if sign == 43 then option_map (λ m. offset (pos (60 * m))) (offset_minutes rest)
    else (if sign == 45 then option_map (λ m. offset (neg_ℤ (pos (60 * m)))) (offset_minutes rest)
    else zone_of_rule (sign ∷ rest))

-- the zone that a value of jiff stands for; a court's file can name no other than the first four
abbrev pub zone_view : TimeZone → Zone
zone_view UTC = offset (pos 0)
zone_view Unknown = other
zone_view (Fixed o) = offset o.seconds
zone_view (Posix tz) = rule (tz_view tz)
zone_view (Tzif z) = other

-- two values that stand for the same clock: it has the same offset at every instant, and the same two offsets
pub record IsSameClock (a b : TimeZone) : Type 0 where
  pub offsets : (t : ℤ) → offset_seconds a t ≡ offset_seconds b t
  pub standard : standard_offset a ≡ standard_offset b
  pub daylight : daylight_offset a ≡ daylight_offset b

-- two values of one court's clock: it shows the same, and the clerk's office opens and closes, and electronic filing ends, at the same
-- minutes
pub record IsSameCourtClock (a b : ClockView) : Type 0 where
  pub zone : IsSameClock a.zone b.zone
  pub opens : a.opens ≡ b.opens
  pub closes : a.closes ≡ b.closes
  pub efiling_until : a.efiling_until ≡ b.efiling_until

-- what it means that a text names a zone: all values that stand for it are one clock
abbrev pub TextsNameClocks : Type 0
TextsNameClocks = (text : List ℕ) (a b : TimeZone) → zone_of_text text ≡ Some (zone_view a) → zone_of_text text ≡ Some (zone_view b) → IsSameClock a b
