use Rattle.desk_entries.proofs.RestoreLemmas.{leaves_the_docket}
use Rattle.desk_entries.proofs.laws.a_restore_leaves_the_docket.Goals as goal

pub returns : goal.returns
returns c = leaves_the_docket
