-- Where the federal list of a court's file and the law differ, and which days are listed to no effect, day by day over the court's
-- span.
use Rattle.std.specs.Prelude.{◌≡◌, ◌↔◌, ℕ, ℤ, pos, ◌+ℤ◌, ◌<ℤ◌, ◌&&◌, not, is_none, is_some, Bool, true, List, map, filter, Option, Some, None}
use Rattle.std.specs.List.{AllPairs, Contains, range_with_len}
use Rattle.court_clock.specs.Words.{days_through, is_weekend}
use Rattle.court_days.specs.Words.{DaysView, is_among, is_covered}
use Rattle.court_holidays.specs.Federal.Words.{holiday_on, observed_on}
use Rattle.court_holidays.specs.States.Words.{state_holiday_on}
use Rattle.court_holidays.specs.declared.federal.statute.FederalHoliday.{FederalHoliday}
use Rattle.court_file_check.specs.declared.review.DayTest.{DayTest}
use Rattle.court_file_check.specs.declared.review.DayTest.TheVariants.{FederalAtWeekend, InBoth, Lacking, StateAtWeekend, Unknown, Unlisted}
use Rattle.court_file_check.specs.declared.review.Due.{Due}
use Rattle.court_file_check.specs.declared.review.Due.TheVariants.{SetByLaw, Observed}

-- why a day is due in a list of federal holidays: the law sets it, or else a holiday is observed on it
abbrev pub due_of : Option FederalHoliday → Option FederalHoliday → Option Due
due_of (Some holiday) observed = Some (SetByLaw holiday)
due_of None (Some holiday) = Some (Observed holiday)
due_of None None = None

abbrev pub due_on : Bool → ℤ → Option Due
due_on capital d = due_of (holiday_on d capital) (observed_on d)

-- What is asked of a day: whether it is due and the federal list lacks it, but for Saturdays and Sundays, on which a holiday changes
-- no period; whether it is in the federal list and isn't due; is a holiday on a Saturday or a Sunday; is a date that both lists
-- have; or is a weekday that a State's law names, that isn't due, and that no list has.
abbrev pub passes : DaysView → DayTest → ℤ → Bool
passes c (Lacking capital) d = not (is_among c.federal d) && (not (is_weekend d) && is_some (due_on capital d))
passes c (Unknown capital) d = is_among c.federal d && is_none (due_on capital d)
passes c FederalAtWeekend d = is_weekend d && is_among c.federal d
passes c StateAtWeekend d = is_weekend d && is_among c.state d
passes c InBoth d = is_among c.federal d && is_among c.state d
passes c (Unlisted capital state) d = not (is_among c.federal d) && (not (is_among c.state d) && (not (is_weekend d) && (is_none (due_on capital d) && is_some (state_holiday_on state d))))

-- n days from the first on
abbrev pub days_from : ℤ → ℕ → List ℤ
days_from first n = map (λ k. first +ℤ pos k) (range_with_len 0 n)

-- the days of the span that pass
unfoldable pub days_that : DaysView → DayTest → List ℤ
days_that c test = filter (passes c test) (days_from c.from (days_through c.from c.to))

-- the review is exact: it has just the days of the span that pass
abbrev pub ReviewIsExact : Type 0
ReviewIsExact = (c : DaysView) (test : DayTest) (d : ℤ) → Contains (days_that c test) d ↔ ((is_covered c d ≡ true) × (passes c test d ≡ true))

-- days are in their order, each once
abbrev pub ReviewIsInOrder : Type 0
ReviewIsInOrder = (c : DaysView) (test : DayTest) → AllPairs (λ a b. a <ℤ b) (days_that c test)
