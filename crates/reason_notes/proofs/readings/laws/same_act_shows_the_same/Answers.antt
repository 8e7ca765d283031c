use Rattle.reason_notes.proofs.ReadingsLemmas.SameLemmas.{same_act}
use Rattle.reason_notes.proofs.readings.laws.same_act_shows_the_same.Goals as goal

pub returns : goal.returns
returns c days clock row suits_it = same_act days clock row suits_it
