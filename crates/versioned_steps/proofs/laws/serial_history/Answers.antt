use Rattle.versioned_steps.proofs.RunLemmas.{run_legal, legal_serial}
use Rattle.versioned_steps.proofs.HistoryLemmas.{legal_empty}
use Rattle.versioned_steps.proofs.laws.serial_history.Goals as goal

pub returns : goal.returns
returns g c = record {
  legal = λ parts. legal_serial (g.P.Parted.rules parts) (g.met.P.Parted.lawful parts);
  run = λ parts before after steps outcomes. run_legal (g.P.Parted.rules parts) (g.met.P.Parted.lawful parts) before steps outcomes after;
  empty = λ parts. legal_empty (g.P.Parted.rules parts);
}
