use Rattle.row_fields.proofs.NamedLemmas.{codes_name_sections_lem}
use Rattle.row_fields.proofs.laws.codes_name_sections.Goals as goal

pub returns : goal.returns
returns c = codes_name_sections_lem
