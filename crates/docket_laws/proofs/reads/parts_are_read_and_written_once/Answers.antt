use Rattle.docket_laws.proofs.ReadsEnd.{read_once}
use Rattle.docket_laws.proofs.ReadsWritten.{written_read, written_once}
use Rattle.docket_laws.proofs.reads.parts_are_read_and_written_once.Goals as goal

pub returns : goal.returns
returns c = record { read = read_once; among = written_read; written = written_once }
