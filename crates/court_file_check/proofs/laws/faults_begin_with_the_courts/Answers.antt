use Rattle.court_file_check.proofs.BeginLemmas.{faults_begin}
use Rattle.court_file_check.proofs.laws.faults_begin_with_the_courts.Goals as goal

pub returns : goal.returns
returns c = faults_begin
