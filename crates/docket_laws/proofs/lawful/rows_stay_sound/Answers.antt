use Rattle.docket_laws.proofs.LawfulLemmas.StepLemmas.{sound_step, sound_docket}
use Rattle.docket_laws.proofs.lawful.rows_stay_sound.Goals as goal

pub returns : goal.returns
returns c = record { after_a_step = sound_step; always = sound_docket }
