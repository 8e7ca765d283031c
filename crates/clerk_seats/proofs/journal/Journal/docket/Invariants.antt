use Rattle.std.proofs.Common.{◌≡◌, take}
use Rattle.docket_rows.specs.Words.{setup_of}
use Rattle.docket_core.specs.Words.{StandsFor}
use Rattle.shared_docket.specs.Words.{rows_of}
use Rattle.clerk_seats.proofs.journal.Journal.docket.Given as goal

-- the docket has made the commands of the entries so far
abbrev pub invariant-loop-entry : goal.invariant-loop-entry
invariant-loop-entry l = record {
  setup : l.docket.setup ≡ setup_of l.court;
  rows : StandsFor l.docket (rows_of (setup_of l.court) (take l.entry-index l.self));
}
