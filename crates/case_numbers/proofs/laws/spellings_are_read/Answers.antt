use Rattle.case_numbers.proofs.NumberLemmas.{spellings_are_read_lem}
use Rattle.case_numbers.proofs.laws.spellings_are_read.Goals as goal

pub returns : goal.returns
returns c = spellings_are_read_lem
