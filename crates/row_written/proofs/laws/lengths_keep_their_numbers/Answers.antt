use Rattle.row_written.proofs.NumberLemmas.{lengths_keep_their_numbers_lem}
use Rattle.row_written.proofs.laws.lengths_keep_their_numbers.Goals as goal

pub returns : goal.returns
returns c = lengths_keep_their_numbers_lem
