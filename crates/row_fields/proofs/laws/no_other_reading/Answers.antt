use Rattle.row_fields.proofs.LawLemmas.{no_other_reading_lem}
use Rattle.row_fields.proofs.laws.no_other_reading.Goals as goal

pub returns : goal.returns
returns c = no_other_reading_lem
