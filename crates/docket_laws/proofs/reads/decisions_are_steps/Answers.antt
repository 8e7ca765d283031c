use Rattle.docket_laws.proofs.ReadsDecided.{decided_answer, decided_parts}
use Rattle.docket_laws.proofs.reads.decisions_are_steps.Goals as goal

pub returns : goal.returns
returns c = record {
  answer = λ setup rows command reads sound ended values. decided_answer setup rows sound command reads ended values;
  parts = λ setup rows command reads sound ended values. decided_parts setup rows sound command reads ended values;
}
