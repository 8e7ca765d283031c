use Rattle.desk_numbers.proofs.CalledLemmas.{the_last_text_counts_lem}
use Rattle.desk_numbers.proofs.laws.the_last_text_counts.Goals as goal

pub returns : goal.returns
returns c = the_last_text_counts_lem
