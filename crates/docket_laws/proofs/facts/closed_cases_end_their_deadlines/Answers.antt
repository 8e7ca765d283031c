use Rattle.docket_laws.proofs.EndedLemmas.{acted_stays, closed_ends}
use Rattle.docket_laws.proofs.facts.closed_cases_end_their_deadlines.Goals as goal

pub returns : goal.returns
returns c = record { pending_ends = closed_ends; acted_stays = acted_stays }
