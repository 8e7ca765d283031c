use Rattle.docket_laws.proofs.LawfulLemmas.StepLemmas.{sound_opening, lawful_opening}
use Rattle.docket_laws.proofs.opening.the_opening_docket_is_lawful.Goals as goal

pub returns : goal.returns
returns c = record { sound = sound_opening; lawful = lawful_opening }
