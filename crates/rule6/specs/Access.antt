-- What becomes of the time for filing where the clerk's office was inaccessible (Fed. R. Civ. P. 6(a)(3)).
use Rattle.std.specs.Prelude.{◌≡◌, ◌↔◌, ◌<ℤ◌, ◌≤ℤ◌, ◌≤◌, ◌<◌, ℕ, zero, suc, ◌*◌, ℤ, pos, ◌+ℤ◌, ◌-ℤ◌, nat_le, nat_lt, Bool, true, false, ◌&&◌, ◌||◌, Option, Some, if◌then◌else◌}
use Rattle.std.specs.List.{list_any}
use Rattle.std.specs.Option.{option_and_then}
use Rattle.std.specs.Ordering.{int_eq}
use Rattle.court_clock.specs.declared.direction.Direction.{Direction}
use Rattle.court_clock.specs.Words.{ClockView, CivilTime, civil_time, civil_of}
use Rattle.court_days.specs.Words.{DaysView, OutageView, has_outage, next_accessible}
use Rattle.rule6.specs.Hours.{same_time_on}

-- Where an outage lies on the last day for filing, the time is extended to the first accessible day that is
-- permitted (Fed. R. Civ. P. 6(a)(3)(A)). It lies later, also for a period measured before its event.
unfoldable pub extended_day : DaysView → ℤ → Direction → Option ℤ
extended_day c last direction = if has_outage c last then next_accessible c direction last else Some last

-- a civil time inside the outage: from its first minute on, and before the minute at which it ends
abbrev pub is_inside : OutageView → CivilTime → Bool
is_inside o shown = int_eq o.day shown.day && (nat_le (60 * o.from) shown.second && nat_lt shown.second (60 * o.to))

-- at one of n whole seconds, from `first` on, the clock shows a time inside the outage
unfoldable pub meets_within : ClockView → OutageView → ℤ → ℕ → Bool
meets_within clock o first zero = false
meets_within clock o first (suc n) = is_inside o (civil_time clock.zone first) || meets_within clock o (first +ℤ pos 1) n

-- one of the 3,600 seconds before the end lies inside the outage
abbrev pub meets_last_hour : ClockView → ℤ → OutageView → Bool
meets_last_hour clock end o = meets_within clock o (end -ℤ pos 3600) 3600

-- Where an outage meets the last hour for filing, the time is extended to the same time on the first accessible
-- day that is permitted (Fed. R. Civ. P. 6(a)(3)(B)), counted from the day on which the period ends.
unfoldable pub extended_end : DaysView → ClockView → ℤ → Direction → Option ℤ
extended_end c clock end direction =
    if list_any (meets_last_hour clock end) c.outages
    then option_and_then (λ shown. same_time_on clock shown.second (next_accessible c direction shown.day)) (civil_of clock.zone end)
    else Some end

-- a second of the last hour at which the clock shows the day of the outage and a time in its minutes
pub record IsMetAt (clock : ClockView) (end : ℤ) (o : OutageView) (second : ℤ) : Type 0 where
  pub in_last_hour : (end -ℤ pos 3600) ≤ℤ second
  pub before_end : second <ℤ end
  pub on_its_day : (civil_time clock.zone second).day ≡ o.day
  pub not_before_it : (60 * o.from) ≤ (civil_time clock.zone second).second
  pub not_after_it : (civil_time clock.zone second).second < (60 * o.to)

-- what it means that an outage meets the last hour: at some second of that hour the clock shows a time inside it
abbrev pub LastHourIsBySeconds : Type 0
LastHourIsBySeconds = (clock : ClockView) (end : ℤ) (o : OutageView) → (meets_last_hour clock end o ≡ true) ↔ ((second : ℤ) × IsMetAt clock end o second)
