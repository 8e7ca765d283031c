use Rattle.hearing_slots.proofs.MotionLemmas.{other_key}
use Rattle.hearing_slots.proofs.motions.note.Goals as goal

pub returns-clause-rest : goal.returns-clause-rest
returns-clause-rest c =
    let updates = rw c.unwrap-older.ensures at c.insert-noted.ensures.updates in
    record {
      this_motion = updates.1;
      other_motions = λ k m other. updates.2 (k, m) (other_key c.args.booking.now.case c.args.booking.now.motion k m other);
    }
