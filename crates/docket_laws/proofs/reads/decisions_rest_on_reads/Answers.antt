use Rattle.docket_laws.proofs.ReadsDecided.{refusal_read, answered_read, changed_read, written_made, written_refused}
use Rattle.docket_laws.proofs.reads.decisions_rest_on_reads.Goals as goal

pub returns : goal.returns
returns c = record {
  refused = refusal_read;
  answers = answered_read;
  changes = changed_read;
  writes = written_made;
  nothing = written_refused;
}
