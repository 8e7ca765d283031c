use Rattle.rule6.proofs.DayLemmas.{last_day_law}
use Rattle.rule6.proofs.laws.last_day_is_counted.Goals as goal

pub returns : goal.returns
returns c = last_day_law c.rolled_is_nearest.ensures
