use Rattle.desk_register.proofs.CaseLemmas.{keeps_its_number}
use Rattle.desk_register.proofs.laws.a_case_keeps_its_number.Goals as goal

pub returns : goal.returns
returns c = keeps_its_number
