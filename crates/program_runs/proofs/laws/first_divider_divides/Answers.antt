use Rattle.program_runs.proofs.DividerLemmas.{first_divider_divides_lem}
use Rattle.program_runs.proofs.laws.first_divider_divides.Goals as goal

pub returns : goal.returns
returns c = first_divider_divides_lem
