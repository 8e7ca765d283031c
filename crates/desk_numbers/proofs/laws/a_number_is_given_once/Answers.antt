use Rattle.desk_numbers.proofs.NumberLemmas.{given_once}
use Rattle.desk_numbers.proofs.laws.a_number_is_given_once.Goals as goal

pub returns : goal.returns
returns c = given_once
