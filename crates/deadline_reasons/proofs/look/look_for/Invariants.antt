use Rattle.std.proofs.Common.{◌+ℤ◌, ◌-ℤ◌, pos, unsigned_abs, ℤ}
use Rattle.court_clock.specs.declared.direction.Direction.{Direction}
use Rattle.court_clock.specs.declared.direction.Direction.TheVariants.{After, Before}
use Rattle.court_clock.specs.Words.{ClockView}
use Rattle.court_days.specs.Words.{DaysView}
use Rattle.rule_periods.specs.Words.{DeadlineRowView}
use Rattle.deadline_reasons.specs.Inside.Leading.{LeadsOn}
use Rattle.deadline_reasons.specs.Standing.{Aim, Looking}
use Rattle.deadline_reasons.proofs.look.look_for.Given as goal

-- each day so far is passed over
abbrev pub invariant-days : goal.invariant-days
invariant-days l = record {
  so_far : (clock : ClockView) (row : DeadlineRowView) (aim : Aim) → LeadsOn l.days clock row l.fn.reasons.items l.reasons.items (Looking l.fn.start l.look aim) (Looking l.number l.look aim);
}

-- how many days are left
abbrev left : Direction → DaysView → ℤ → ℤ
left After c number = c.to +ℤ pos 1 -ℤ number
left Before c number = number +ℤ pos 1 -ℤ c.from

abbrev pub decreases-days : goal.decreases-days
decreases-days l = unsigned_abs (left l.look.going l.days l.number)
