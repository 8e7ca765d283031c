use Rattle.case_numbers.proofs.ShownLemmas.{keys_tell_cases_apart_lem}
use Rattle.case_numbers.proofs.laws.keys_tell_cases_apart.Goals as goal

pub returns : goal.returns
returns c = keys_tell_cases_apart_lem
