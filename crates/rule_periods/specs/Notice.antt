-- The day by which a motion and the notice of its hearing are served (Fed. R. Civ. P. 6(c)).
use Rattle.std.specs.Prelude.{ℕ, ℤ, pos, ◌-ℤ◌, Option}
use Rattle.court_clock.specs.declared.direction.Direction.TheVariants.{Before}
use Rattle.court_days.specs.Words.{DaysView, is_permitted, latest_day}

-- The greatest covered day, at or before the day that lies n days before the hearing, that is no Saturday, Sunday or
-- federal holiday: the period is measured before its event (6(a)(5)).
abbrev pub notice_of : DaysView → ℤ → ℕ → Option ℤ
notice_of c hearing n = latest_day c (is_permitted c Before) (hearing -ℤ pos n)
