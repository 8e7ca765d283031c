use Rattle.desk_numbers.proofs.StrikesLemmas.StrikeLemmas.{not_both}
use Rattle.desk_numbers.proofs.strikes.laws.no_entry_is_both.Goals as goal

pub returns : goal.returns
returns c = not_both
