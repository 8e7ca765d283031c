use Rattle.row_forms.proofs.OfficeLemmas.{office_rows_are_read_alike_lem}
use Rattle.row_forms.proofs.laws.office_rows_are_read_alike.Goals as goal

pub returns-clause-alike : goal.returns-clause-alike
returns-clause-alike c = office_rows_are_read_alike_lem
