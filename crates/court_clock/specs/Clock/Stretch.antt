-- Stretches of time in which a clock's offset doesn't change.
use Rattle.std.specs.Prelude.{◌≡◌, ℤ, pos, ◌+ℤ◌, ◌≤ℤ◌, ◌<ℤ◌}
use Rattle.jiff_tz.specs.declared.timezone.TimeZone.{TimeZone}
use Rattle.jiff_tz.specs.Year.{year_of_day}
use Rattle.court_clock.specs.Clock.{offset_seconds}

-- from one second up to another, which is not included, the clock is that many seconds ahead of UTC
abbrev pub IsSteady : TimeZone → ℤ → ℤ → ℤ → Type 0
IsSteady zone from until offset = (t : ℤ) → from ≤ℤ t → t <ℤ until → offset_seconds zone t ≡ offset

-- the last day of a day's year
pub record IsLastOfYear (day last : ℤ) : Type 0 where
  pub later : day ≤ℤ last
  pub near : last ≤ℤ (day +ℤ pos 366)
  pub same_year : (d : ℤ) → day ≤ℤ d → d ≤ℤ last → year_of_day d ≡ year_of_day day
