use Rattle.reason_notes.proofs.ReadingsLemmas.AgainLemmas.{added_again, extended_again}
use Rattle.reason_notes.proofs.readings.laws.counted_again_shows_the_same.Goals as goal

pub returns-clause-extended : goal.returns-clause-extended
returns-clause-extended c = extended_again

pub returns-clause-added : goal.returns-clause-added
returns-clause-added c = added_again
