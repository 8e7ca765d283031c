use Rattle.hearing_slots.proofs.MotionLemmas.{other_key}
use Rattle.hearing_slots.proofs.motions.forget.Goals as goal

pub returns-clause-rest : goal.returns-clause-rest
returns-clause-rest c = record {
  this_motion = c.remove.ensures.updates.1;
  other_motions = λ k m other. c.remove.ensures.updates.2 (k, m) (other_key c.args.case c.args.motion k m other);
}
