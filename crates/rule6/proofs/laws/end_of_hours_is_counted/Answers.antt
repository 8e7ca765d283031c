use Rattle.rule6.proofs.EndOfHoursLemmas.{end_law}
use Rattle.rule6.proofs.laws.end_of_hours_is_counted.Goals as goal

pub returns : goal.returns
returns c = end_law c.rolled_is_nearest.ensures c.instants_are_earliest.ensures
