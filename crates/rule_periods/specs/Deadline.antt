-- A deadline: what is kept of it.
use Rattle.std.specs.Prelude.{ℤ, Bool, min, List, [], ◌∷◌, ◌++◌, Option, Some, None}
use Rattle.std.specs.List.{list_all}
use Rattle.rule6.specs.declared.timeliness.Filing.{Filing}
use Rattle.rule6.specs.declared.service.ServiceKind.{ServiceKind}
use Rattle.rule_periods.specs.declared.grant.Grant.{Grant}
use Rattle.rule_periods.specs.declared.period.Period.{Period}
use Rattle.rule_periods.specs.Event.{EventView}
use Rattle.rule_periods.specs.Grant.{grant_fits}
use Rattle.rule_periods.specs.Period.{is_in_hours}

-- a deadline: its period, the event from which it runs, the extensions in the order in which they were granted, and
-- the act that was recorded
pub record DeadlineRowView : Type 0 where
  pub period : Period
  pub event : EventView
  pub second : Option ℤ
  pub service : Option ServiceKind
  pub grants : List Grant
  pub filed : Option Filing

-- a minute of 1,440 or more is kept as the last of the day
abbrev pub kept_filing : Filing → Filing
kept_filing filing = record filing { minute = min filing.minute 1439 }

-- the deadline with one more extension
abbrev pub with_grant : DeadlineRowView → Grant → DeadlineRowView
with_grant row grant = record row { grants = row.grants ++ grant ∷ [] }

-- the deadline with the act recorded
abbrev pub with_filing : DeadlineRowView → Filing → DeadlineRowView
with_filing row filing = record row { filed = Some (kept_filing filing) }

-- the second day of a deadline that runs anew, where its period takes one
abbrev pub second_anew : Option ℤ → (day : ℤ) → Option ℤ
second_anew None day = None
second_anew (Some second) day = Some day

-- The deadline as it runs anew from a day: that is the day of its event, at the same time of day, and the second day where its period takes
-- one. No extension counts any more.
abbrev pub anew : DeadlineRowView → (day : ℤ) → DeadlineRowView
anew row day = record row { event = record row.event { day = day }; second = second_anew row.second day; grants = [] }

-- and as it goes on, anew from a day where one is given
abbrev pub anew_if : DeadlineRowView → Option ℤ → DeadlineRowView
anew_if row None = row
anew_if row (Some day) = anew row day

-- every extension is of the kind of the period
abbrev pub has_fitting_grants : DeadlineRowView → Bool
has_fitting_grants row = list_all (grant_fits (is_in_hours row.period)) row.grants
