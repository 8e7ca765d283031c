-- The lemmas for the crates above.
use Rattle.std.proofs.Common.{◌≡◌, List, refl}
use Rattle.docket_rows.specs.declared.command.Command.{Command}
use Rattle.docket_rows.specs.declared.part.PartId.{PartId}
use Rattle.docket_rows.specs.declared.part.PartValue.{PartValue}
use Rattle.docket_rows.specs.Words.{CourtSetup, next_part}
use Rattle.shared_docket.specs.DocketRules.{docket_rules}
pub use Rattle.shared_docket.specs.DocketLawful.{docket_lawful, docket_part_eq}
-- Legal histories of the docket's parts, and runs that lead to them.
pub use Rattle.shared_docket.proofs.SequentialLemmas.{StandFor, legal_sequential, legal_values, history_lawful, lawful_after_each}

-- the rules of a docket read the docket's parts
pub docket_next : (setup : CourtSetup) (command : Command) (reads : List (PartId × PartValue)) → (docket_rules setup).next_part command reads ≡ next_part setup command reads
unfolding docket_rules
docket_next setup command reads = refl
