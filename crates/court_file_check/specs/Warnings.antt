-- What may be wrong with a court's file that has no fault.
use Rattle.std.specs.Prelude.{ℕ, suc, ◌+◌, drop, length, nat_eq, nat_lt, ◌&&◌, ◌||◌, not, Bool, false, ℤ, pos, ◌+ℤ◌, ◌-ℤ◌, int_le, int_lt, unsigned_abs, List, [], ◌++◌, filter, map, Option, Some, None, option_map, if◌then◌else◌}
use Rattle.std.specs.List.{list_any, range_with_len, starts_with}
use Rattle.std.specs.Ordering.{int_eq}
use Rattle.std.specs.Option.{option_and_then, option_to_list}
use Rattle.toml.specs.Data.{Data, Items, no_items, item, as_str}
use Rattle.court_clock.specs.Words.{day_of_text, day_text}
use Rattle.court_days.specs.Words.{DaysView, is_among, is_covered}
use Rattle.court_holidays.specs.Federal.Words.{ClosingView, closings, set_in}
use Rattle.court_holidays.specs.States.Words.{on}
use Rattle.court_holidays.specs.declared.states.state.State.{State}
use Rattle.jiff_tz.specs.Year.{year_of_day}
use Rattle.court_holidays.specs.declared.federal.statute.FederalHoliday.TheVariants.{NewYearsDay}
use Rattle.court_file_check.specs.Review.{days_from, days_that}
use Rattle.court_file_check.specs.declared.review.DayTest.TheVariants.{Unlisted}
use Rattle.court_file_check.specs.declared.warnings.slips.Slip.{Slip}
use Rattle.court_file_check.specs.declared.warnings.slips.Slip.TheVariants.{Outside, Twice, Early}

-- the days from a first up to another, which isn't one of them, lie in the span
abbrev pub is_within : DaysView → ℤ → ℤ → Bool
is_within c first next = int_le first next && (int_le c.from first && int_le next (c.to +ℤ pos 1))

-- one of them is in the federal list
abbrev pub has_day : DaysView → ℤ → ℤ → Bool
has_day c first next = list_any (is_among c.federal) (days_from first (unsigned_abs (next -ℤ first)))

-- a year that lies in the span, from its first day up to that of the next year, and of which no day is in the federal list
abbrev pub is_bare : DaysView → Option ℤ → Option ℤ → Bool
is_bare c (Some first) (Some next) = is_within c first next && not (has_day c first next)
is_bare c (Some first) None = false
is_bare c None next = false

abbrev pub is_bare_year : DaysView → ℕ → Bool
is_bare_year c year = is_bare c (set_in NewYearsDay (pos year)) (set_in NewYearsDay (pos (suc year)))

-- those of 1970 to 2198
unfoldable pub bare_years : DaysView → List ℕ
bare_years c = filter (is_bare_year c) (range_with_len 1970 229)

-- a date of a list, as it is written: it lies outside the span, so that it does nothing; it is the one before it once more; or it
-- is earlier than the one before it. What is before it is the last date that lies in the span.
abbrev pub slip_after : Option ℤ → ℤ → Option Slip
slip_after None d = None
slip_after (Some before) d = if int_eq before d then Some Twice else (if int_lt d before then Some Early else None)

abbrev pub slip_of : DaysView → Option ℤ → Option ℤ → Option Slip
slip_of c before None = None
slip_of c before (Some d) = if is_covered c d then slip_after before d else Some Outside

abbrev pub later : DaysView → Option ℤ → Option ℤ → Option ℤ
later c before None = before
later c before (Some d) = if is_covered c d then Some d else before

-- the date that an item is
abbrev pub day_of_data : Data → Option ℤ
day_of_data value = option_and_then day_of_text (as_str value)

-- the slips of the items of a list, with their numbers, counted on from one
unfoldable pub slips_from : DaysView → ℕ → Option ℤ → Items → List (ℕ × Slip)
slips_from c i before no_items = []
slips_from c i before (item value rest) =
    option_to_list (option_map (λ slip. (i, slip)) (slip_of c before (day_of_data value))) ++ slips_from c (suc i) (later c before (day_of_data value)) rest

-- the office closes before noon, and it is open for more than twelve hours
abbrev pub closes_early : ℕ → Bool
closes_early closes = nat_lt closes 720

abbrev pub is_long_day : ℕ → ℕ → Bool
is_long_day opens closes = nat_lt (opens + 720) closes

-- electronic filing ends before the office closes
abbrev pub is_efiling_early : (closes : ℕ) → (until : Option ℕ) → Bool
is_efiling_early closes None = false
is_efiling_early closes (Some until) = nat_lt until closes

-- The span has less than the longest period of the table after its first day: 90 days, Fed. R. Civ. P. 4(m) and
-- 12(a)(1)(A)(ii).
abbrev pub is_short_span : DaysView → Bool
is_short_span c = int_lt c.to (c.from +ℤ pos 90)

-- the day is in October, November or December, in the years for which the holidays of the next two are stated
abbrev pub is_autumn : ℤ → Bool
is_autumn d = int_le (pos 1970) (year_of_day d) && (int_le (year_of_day d) (pos 2197) && int_le (on 10 1 (year_of_day d)) d)

-- the last day of the next year
abbrev pub next_year_end : ℤ → ℤ
next_year_end d = on 12 31 (year_of_day d +ℤ pos 1)

-- the span ends within a year after a day
abbrev pub ends_within_a_year : DaysView → ℤ → Bool
ends_within_a_year c d = int_lt c.to (d +ℤ pos 365)

-- the day is in autumn, when the next year's calendar is made, and the span ends with that year or before it
abbrev pub ends_by_next_year : DaysView → ℤ → Bool
ends_by_next_year c d = is_autumn d && int_le c.to (next_year_end d)

-- one of these, of a day that is given
abbrev pub ends_soon : DaysView → Option ℤ → Bool
ends_soon c None = false
ends_soon c (Some today) = ends_within_a_year c today || ends_by_next_year c today

-- a text has these bytes somewhere
abbrev pub has_text : (text part : List ℕ) → Bool
has_text text part = list_any (λ rest. starts_with nat_eq rest part) (map (λ place. drop place text) (range_with_len 0 (length text)))

-- a day on which the President closed the executive departments is in the span, and the file's text doesn't have its date
abbrev pub is_unsaid_day : DaysView → (text date : List ℕ) → Option ℤ → Bool
is_unsaid_day c text date None = false
is_unsaid_day c text date (Some d) = is_covered c d && not (has_text text date)

abbrev pub is_unsaid : DaysView → (text : List ℕ) → ClosingView → Bool
is_unsaid c text closing = is_unsaid_day c text closing.day (day_of_text closing.day)

unfoldable pub unsaid_closings : DaysView → (text : List ℕ) → List ClosingView
unsaid_closings c text = filter (is_unsaid c text) closings

-- a day whose date isn't in the text
abbrev pub is_day_unsaid : (text : List ℕ) → ℤ → Bool
is_day_unsaid text d = not (has_text text (day_text d))

-- the days of the span that the law of the court's State names, where it is known which that is, that no list has, and of which the text
-- says nothing
abbrev pub unsaid_holidays : DaysView → (text : List ℕ) → (capital : Bool) → Option State → List ℤ
unsaid_holidays c text capital None = []
unsaid_holidays c text capital (Some state) = filter (is_day_unsaid text) (days_that c (Unlisted capital state))
