-- A deadline with one thing changed: its act, its event, its extensions, or its days counted in two steps.
use Rattle.std.specs.Prelude.{◌≡◌, ℕ, ◌-◌, ℤ, pos, ◌+ℤ◌, Bool, true, false, ◌&&◌, [], length, take, slice_get, Option, Some, None, if◌then◌else◌}
use Rattle.court_clock.specs.declared.direction.Direction.TheVariants.{After}
use Rattle.court_clock.specs.Words.{ClockView, is_day_number}
use Rattle.court_days.specs.Words.{DaysView}
use Rattle.rule6.specs.declared.service.ServiceKind.{ServiceKind}
use Rattle.rule6.specs.declared.timeliness.Act.{Act}
use Rattle.rule6.specs.declared.timeliness.Act.TheVariants.{Filing}
use Rattle.rule_periods.specs.declared.expiry.Expiry.TheVariants.{OnDay}
use Rattle.rule_periods.specs.declared.grant.Grant.{Grant}
use Rattle.rule_periods.specs.declared.grant.Grant.TheVariants as grant
use Rattle.rule_periods.specs.declared.mark.Mark.TheVariants.{Plain}
use Rattle.rule_periods.specs.declared.period.Entered.{Entered}
use Rattle.rule_periods.specs.declared.period.Length.TheVariants.{Days}
use Rattle.rule_periods.specs.declared.period.Period.{Period}
use Rattle.rule_periods.specs.declared.period.Period.TheVariants as period
use Rattle.rule_periods.specs.Words.{DeadlineRowView, act_due, extended_of, is_in_hours, kind_adds, runs_from, runs_from_service, service_rule_of, shown_of, suits, terms_of, with_grant}

-- a period as one that is entered: its length, its side of the event, its act, and whether it runs from service
abbrev pub as_entered : DeadlineRowView → Period → Entered
as_entered row (period.Rule rule) = record {
  length = Days (terms_of rule (runs_from row)).days;
  direction = After;
  act = act_due row;
  served = runs_from_service (service_rule_of rule);
  mark = Plain;
}
as_entered row (period.Entered entered) = entered

-- a kind of service, where the period runs from service
abbrev pub kind_kept : Bool → Option ServiceKind → Option ServiceKind
kind_kept true kind = kind
kind_kept false kind = None

-- the same deadline with this act, which runs from service or doesn't
abbrev pub with_terms : Act → (served : Bool) → DeadlineRowView → DeadlineRowView
with_terms act served row = record {
  period = period.Entered (record (as_entered row row.period) { act = act; served = served });
  event = record row.event { day = runs_from row };
  second = None;
  service = kind_kept served row.service;
  grants = row.grants;
  filed = None;
}

-- the same deadline with another act
abbrev pub with_act : Act → DeadlineRowView → DeadlineRowView
with_act act row = with_terms act (as_entered row row.period).served row

-- With the act that it has, the deadline shows what it shows as it is docketed. So a reading by which the act is another
-- changes nothing else.
abbrev pub SameActShowsTheSame : Type 0
SameActShowsTheSame = (c : DaysView) (clock : ClockView) (row : DeadlineRowView) → suits row.period row.second row.service ≡ true → shown_of c clock (with_act (act_due row) row) ≡ shown_of c clock row

-- the same deadline, to file, without the days of 6(d)
abbrev pub without_added : DeadlineRowView → DeadlineRowView
without_added row = with_terms Filing false row

-- the kind of service adds days
abbrev pub adds_days : DeadlineRowView → Bool
adds_days row = (as_entered row row.period).served && kind_adds row.service row.event.day

-- this number of days after a day, to file
abbrev pub counted_again : ℤ → ℕ → DeadlineRowView
counted_again day n = record {
  period = period.Entered (record { length = Days n; direction = After; act = Filing; served = false; mark = Plain });
  event = record { day = day; minute = 0 };
  second = None;
  service = None;
  grants = [];
  filed = None;
}

-- Counted again from the day on which the time ended before an extension by days, without the days that an outage gave, the
-- deadline shows what it shows with that extension. So a reading by which the extension counts from the moved day changes that
-- day and nothing else.
abbrev pub ExtendedAgainShowsTheSame : Type 0
ExtendedAgainShowsTheSame = (c : DaysView) (clock : ClockView) (row : DeadlineRowView) (n : ℕ) (day : ℤ) → act_due row ≡ Filing → is_in_hours row.period ≡ false → extended_of c clock row ≡ Some (OnDay day) → shown_of c clock (counted_again day n) ≡ shown_of c clock (with_grant row (grant.ByDays n))

-- The same of the three days of 6(d): counted again from the day on which the period would otherwise expire, without the days
-- that an outage gave, the deadline shows what it shows.
abbrev pub AddedAgainShowsTheSame : Type 0
AddedAgainShowsTheSame = (c : DaysView) (clock : ClockView) (row : DeadlineRowView) (day : ℤ) → suits row.period row.second row.service ≡ true → act_due row ≡ Filing → row.grants ≡ [] → adds_days row ≡ true → extended_of c clock (without_added row) ≡ Some (OnDay day) → shown_of c clock (counted_again day 3) ≡ shown_of c clock row

-- the deadline before its last extension, and that extension
abbrev pub before_last : DeadlineRowView → DeadlineRowView
before_last row = record row { grants = take (length row.grants - 1) row.grants }

abbrev pub last_grant : DeadlineRowView → Option Grant
last_grant row = slice_get row.grants (length row.grants - 1)

-- the day after a day, if it is one
abbrev pub day_after : ℤ → Option ℤ
day_after day = if is_day_number (day +ℤ pos 1) then Some (day +ℤ pos 1) else None

-- the same deadline from the first minute of a day
abbrev pub started_on : ℤ → DeadlineRowView → DeadlineRowView
started_on day row = record row { event = record { day = day; minute = 0 } }
