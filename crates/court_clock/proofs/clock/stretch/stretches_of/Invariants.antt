use Rattle.std.proofs.Common.{◌≤ℤ◌, neg_ℤ, pos, All}
use Rattle.jiff.specs.Words.{plain_zone}
use Rattle.court_clock.specs.Clock.Stretch.{IsSteady}
use Rattle.court_clock.specs.Day.Search.{days_through}
use Rattle.court_clock.proofs.clock.stretch.stretches_of.Given as goal

-- each stretch so far is steady
abbrev pub invariant-stretches : goal.invariant-stretches
invariant-stretches l = record {
  steady : All (λ s. IsSteady (plain_zone l.zone) s.from s.until s.offset) l.stretches.items;
  low : neg_ℤ (pos 9_600_000_000) ≤ℤ l.from;
  high : l.stop ≤ℤ pos 9_600_000_000;
}

abbrev pub decreases-stretches : goal.decreases-stretches
decreases-stretches l = days_through l.from l.stop
