-- The end of a period that is stated in hours.
use Rattle.std.specs.Prelude.{◌≡◌, ◌↔◌, ℕ, ◌*◌, ℤ, pos, ◌+ℤ◌, ◌-ℤ◌, true, false, Option, Some, if◌then◌else◌, option_map}
use Rattle.std.specs.Option.{option_and_then}
use Rattle.court_clock.specs.declared.direction.Direction.{Direction}
use Rattle.court_clock.specs.Words.{ClockView, CivilTime, Shows, IsInstantOf, is_ruled, is_day_number, civil_of, instant_of}
use Rattle.court_days.specs.Words.{DaysView, IsRolled, is_permitted, rolled}
use Rattle.court_clock.specs.declared.direction.Direction.TheVariants.{After, Before}

-- the instant that lies h hours after an event, or before it: counting begins at once and every hour counts
-- (Fed. R. Civ. P. 6(a)(2)(A), (B))
abbrev pub hours_from : ℤ → ℕ → Direction → ℤ
hours_from event h After = event +ℤ pos (3600 * h)
hours_from event h Before = event -ℤ pos (3600 * h)

-- the instant of a time of day on a day, if there is such a day
abbrev pub same_time_on : ClockView → ℕ → Option ℤ → Option ℤ
same_time_on clock second day = option_map (λ d. instant_of clock.zone d second) day

-- An end that the clock shows on a permitted day stays. Another is continued to the same time on the next
-- permitted day in the direction of the period (Fed. R. Civ. P. 6(a)(2)(C), (5)).
abbrev pub continued : DaysView → ClockView → Direction → ℤ → CivilTime → Option ℤ
continued c clock direction end shown =
    if is_permitted c direction shown.day then Some end
    else same_time_on clock shown.second (rolled c shown.day direction)

-- the end of a period of h hours
unfoldable pub end_of_hours_from : DaysView → ClockView → ℤ → ℕ → Direction → Option ℤ
end_of_hours_from c clock event h direction =
    option_and_then (continued c clock direction (hours_from event h direction)) (civil_of clock.zone (hours_from event h direction))

-- the end is at the same time of day on the nearest permitted day, backward for a period measured before its event
pub record IsContinued (c : DaysView) (clock : ClockView) (direction : Direction) (shown : CivilTime) (end : ℤ) : Type 0 where
  pub next : ℤ
  pub nearest : IsRolled c shown.day direction next
  pub same_time : IsInstantOf clock.zone next shown.second end

-- The period of h hours ends at this instant: every hour of 3,600 seconds from the event on is counted (6(a)(2)(A),
-- (B)). An end that the clock shows on a permitted day is kept, and another is continued (6(a)(2)(C)).
pub record IsEndOfHours (c : DaysView) (clock : ClockView) (event : ℤ) (h : ℕ) (direction : Direction) (end : ℤ) : Type 0 where
  pub counted : ℤ
  pub every_hour : counted ≡ hours_from event h direction
  pub shown : CivilTime
  pub is_shown : Shows clock.zone shown.day shown.second counted
  pub is_a_day : is_day_number shown.day ≡ true
  pub kept : is_permitted c direction shown.day ≡ true → end ≡ counted
  pub continued_else : is_permitted c direction shown.day ≡ false → IsContinued c clock direction shown end

-- What the end of hours means, on a clock that a court's file can name: it is the instant that is counted in this way,
-- and there is none only where no instant is counted.
abbrev pub EndOfHoursIsCounted : Type 0
EndOfHoursIsCounted = (c : DaysView) (clock : ClockView) (event : ℤ) (h : ℕ) (direction : Direction) (end : ℤ) → is_ruled clock.zone ≡ true → (end_of_hours_from c clock event h direction ≡ Some end) ↔ IsEndOfHours c clock event h direction end
