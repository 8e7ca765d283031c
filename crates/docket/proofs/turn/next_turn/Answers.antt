use Rattle.desk_program.specs.Words.{standing_at}
use Rattle.docket.proofs.turn.next_turn.Goals as goal

-- The same of the entries with which the docket goes on.
pub returns-in-Some : goal.returns-in-Some
returns-in-Some g c = λ left. λ clean.
    let (entries, stood, whole, keeps) = (rw c.in-Some.is at c.in_ok-gone_on.ensures _ c.in_ok-file.ensures left) (c.turn_at.ensures.clean clean) in
    record {
      entries = entries;
      under = standing_at c.in-Some.desk;
      stood = stood;
      whole = whole;
      stands = keeps.docketed.standing;
      promised = c.turn_at.ensures.promised entries keeps;
    }
