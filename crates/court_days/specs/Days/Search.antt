-- The least and the greatest covered day that passes a test.
use Rattle.std.specs.Prelude.{◌≡◌, ◌↔◌, ℤ, ◌≤ℤ◌, Bool, true, Option, Some}
use Rattle.court_clock.specs.Words.{first_passing, last_passing, days_through, later_day, earlier_day}
use Rattle.court_days.specs.Days.{DaysView, is_covered}

-- the least covered day at or after d that passes the test
unfoldable pub earliest_day : DaysView → (ℤ → Bool) → ℤ → Option ℤ
earliest_day c test d = first_passing test (days_through (later_day d c.from) c.to) (later_day d c.from)

-- the greatest covered day at or before d that passes the test
unfoldable pub latest_day : DaysView → (ℤ → Bool) → ℤ → Option ℤ
latest_day c test d = last_passing test (days_through c.from (earlier_day d c.to)) (earlier_day d c.to)

-- r is the least covered day at or after d that passes the test
pub record IsEarliestDay (c : DaysView) (test : ℤ → Bool) (d r : ℤ) : Type 0 where
  pub covered : is_covered c r ≡ true
  pub passes : test r ≡ true
  pub at_or_after : d ≤ℤ r
  pub least : (e : ℤ) → is_covered c e ≡ true → test e ≡ true → d ≤ℤ e → r ≤ℤ e

-- r is the greatest covered day at or before d that passes the test
pub record IsLatestDay (c : DaysView) (test : ℤ → Bool) (d r : ℤ) : Type 0 where
  pub covered : is_covered c r ≡ true
  pub passes : test r ≡ true
  pub at_or_before : r ≤ℤ d
  pub greatest : (e : ℤ) → is_covered c e ≡ true → test e ≡ true → e ≤ℤ d → e ≤ℤ r

-- what the searches mean
abbrev pub EarliestIsLeast : Type 0
EarliestIsLeast = (c : DaysView) (test : ℤ → Bool) (d r : ℤ) → (earliest_day c test d ≡ Some r) ↔ IsEarliestDay c test d r

abbrev pub LatestIsGreatest : Type 0
LatestIsGreatest = (c : DaysView) (test : ℤ → Bool) (d r : ℤ) → (latest_day c test d ≡ Some r) ↔ IsLatestDay c test d r
