use Rattle.desk_program.proofs.LogReadLemmas.{log_reads_back}
use Rattle.desk_program.proofs.log_json.the_log_reads_back.Goals as goal

pub returns : goal.returns
returns c = log_reads_back
