use Rattle.docket_laws.proofs.LawfulLemmas.StepLemmas.{lawful_step, lawful_docket}
use Rattle.docket_laws.proofs.lawful.rows_stay_lawful.Goals as goal

pub returns : goal.returns
returns c = record { after_a_step = lawful_step; always = lawful_docket }
