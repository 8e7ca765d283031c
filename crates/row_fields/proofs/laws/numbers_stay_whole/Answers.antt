use Rattle.row_fields.proofs.NumberLemmas.{numbers_stay_whole_lem}
use Rattle.row_fields.proofs.laws.numbers_stay_whole.Goals as goal

pub returns : goal.returns
returns c = numbers_stay_whole_lem
