-- What is refused where a period starts.
use Rattle.std.specs.Prelude.{ℤ, Bool, true, ◌&&◌, not, List, [], ◌∷◌, Option, Some, None}
use Rattle.court_days.specs.Words.{DaysView, is_covered}
use Rattle.rule6.specs.declared.service.ServiceKind.{ServiceKind}
use Rattle.rule_periods.specs.declared.period.Period.{Period}
use Rattle.rule_periods.specs.declared.refusal.PeriodRefusal.{PeriodRefusal}
use Rattle.rule_periods.specs.declared.refusal.PeriodRefusal.TheVariants.{BadDay, WrongService, BadLength}
use Rattle.rule_periods.specs.Event.{EventView}
use Rattle.rule_periods.specs.FirstRefusal.{when, first_of}
use Rattle.rule_periods.specs.Period.{suits, has_length}

-- the day is covered, if one is given
abbrev pub is_covered_if_given : DaysView → Option ℤ → Bool
is_covered_if_given c None = true
is_covered_if_given c (Some d) = is_covered c d

-- In this order: a day that isn't covered; a kind of service or a second day that doesn't suit the period; a length
-- out of its range.
abbrev pub start_checks : DaysView → Period → EventView → Option ℤ → Option ServiceKind → List (Option PeriodRefusal)
start_checks c period event second kind =
    (when (not (is_covered c event.day && is_covered_if_given c second)) BadDay
    ∷ when (not (suits period second kind)) WrongService
    ∷ when (not (has_length period)) BadLength
    ∷ [])

-- the first refusal of a start, or none
unfoldable pub start_refusal : DaysView → Period → EventView → Option ℤ → Option ServiceKind → Option PeriodRefusal
start_refusal c period event second kind = first_of (start_checks c period event second kind)
