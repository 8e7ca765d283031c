use Rattle.std.proofs.Common.{◌≡◌, ℤ, pos, neg_ℤ, ◌-ℤ◌, ◌≤ℤ◌, ◌<ℤ◌, false, unsigned_abs}
use Rattle.court_clock.specs.Words.{civil_time}
use Rattle.rule6.specs.Access.{is_inside}
use Rattle.rule6.proofs.access.meets_last_hour.Given as goal

-- no second of the hour so far lies inside the outage
abbrev pub invariant-stretches : goal.invariant-stretches
invariant-stretches l = record {
  in_last_hour : (l.fn.end -ℤ pos 3600) ≤ℤ l.from;
  is_instant : neg_ℤ (pos 9_600_000_000) ≤ℤ l.from;
  before_end : l.from ≤ℤ l.fn.end;
  none : (t : ℤ) → (l.fn.end -ℤ pos 3600) ≤ℤ t → t <ℤ l.from → is_inside l.fn.outage (civil_time l.clock.zone t) ≡ false;
}

abbrev pub decreases-stretches : goal.decreases-stretches
decreases-stretches l = unsigned_abs (l.fn.end -ℤ l.from)
