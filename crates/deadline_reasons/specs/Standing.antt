-- How far a derivation has come.
use Rattle.std.specs.Prelude.{ℕ, ℤ, Bool, List, []}
use Rattle.court_clock.specs.declared.direction.Direction.{Direction}
use Rattle.rule6.specs.declared.timeliness.Shown.{Shown}
use Rattle.rule_periods.specs.declared.grant.Grant.{Grant}
use Rattle.deadline_reasons.specs.declared.look.Look.{Look}

-- what is still to come once a last day is found: three days for service, or not, and extensions, in their order
pub record ToCome : Type 0 where
  pub three : Bool
  pub grants : List Grant

-- for what a day is looked for that there is no cause to pass over
pub data Aim : Type 0 where
  -- the period runs to it, and this is to come
  LastDay : ToCome → Aim
  -- the hours are continued to this second of it, and these extensions are to come
  Hour : ℕ → List Grant → Aim
  -- an act is filed on it, since the clerk's office was inaccessible
  AccessibleDay : Aim
  -- an act is filed until this second of it, for the same reason
  AccessibleHour : ℕ → Aim

pub data Standing : Type 0 where
  -- nothing is said yet
  Unstarted : Standing
  -- this number of days is to be counted from this day, after it or before it
  Counting : ℤ → ℕ → Direction → ToCome → Standing
  -- this day is looked at next
  Looking : ℤ → Look → Aim → Standing
  -- the period runs to this last day
  Runs : ℤ → ToCome → Standing
  -- this number of hours is to be counted from this instant, after it or before it
  CountingHours : ℤ → ℕ → Direction → List Grant → Standing
  -- the hours are counted, and end at this instant
  HoursEnd : ℤ → Direction → List Grant → Standing
  -- the period runs until this instant
  RunsUntil : ℤ → List Grant → Standing
  -- an act is filed by this day, or this instant, since the clerk's office was inaccessible before
  Moved : ℤ → Standing
  MovedUntil : ℤ → Standing
  -- a day that was needed isn't covered; a date certain may yet be among these extensions
  Nowhere : List Grant → Standing
  -- nothing is left to say
  Ended : Shown → Standing

-- the extensions that are to come once the day that was looked for is found
abbrev pub grants_behind : Aim → List Grant
grants_behind (LastDay rest) = rest.grants
grants_behind (Hour second grants) = grants
grants_behind AccessibleDay = []
grants_behind (AccessibleHour second) = []
