use Rattle.docket_laws.proofs.RulingLemmas.{none_later, earlier_stays, others_stay}
use Rattle.docket_laws.proofs.facts.rulings_leave_no_later_hearing.Goals as goal

pub returns : goal.returns
returns c = record { none_later = none_later; earlier_stays = earlier_stays; others_stay = others_stay }
