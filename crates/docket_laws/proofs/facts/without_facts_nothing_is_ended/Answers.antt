use Rattle.docket_laws.proofs.EndedLemmas.{all_open, all_due, all_unassigned, all_unruled, never_recorded}
use Rattle.docket_laws.proofs.facts.without_facts_nothing_is_ended.Goals as goal

pub returns : goal.returns
returns c = record { none_recorded = never_recorded; none_closed = all_open; none_ended = all_due; none_ruled = all_unruled; none_assigned = all_unassigned }
