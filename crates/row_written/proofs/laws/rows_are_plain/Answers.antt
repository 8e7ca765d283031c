use Rattle.row_written.proofs.LawLemmas.{rows_are_plain_lem}
use Rattle.row_written.proofs.laws.rows_are_plain.Goals as goal

pub returns : goal.returns
returns c = rows_are_plain_lem
