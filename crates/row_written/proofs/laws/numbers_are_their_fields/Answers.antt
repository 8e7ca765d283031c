use Rattle.row_written.proofs.NumberLemmas.{numbers_are_their_fields_lem}
use Rattle.row_written.proofs.laws.numbers_are_their_fields.Goals as goal

pub returns : goal.returns
returns c = numbers_are_their_fields_lem
