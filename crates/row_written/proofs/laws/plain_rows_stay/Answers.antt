use Rattle.row_written.proofs.LawLemmas.{plain_rows_stay_lem}
use Rattle.row_written.proofs.laws.plain_rows_stay.Goals as goal

pub returns : goal.returns
returns c = plain_rows_stay_lem
