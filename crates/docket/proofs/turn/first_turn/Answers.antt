use Rattle.desk_journal.specs.Words.{batch_of}
use Rattle.desk_program.specs.Words.{standing_at}
use Rattle.docket.proofs.turn.first_turn.Goals as goal

-- What the turn promises of any entries that its desk keeps is so of those that the file stood for.
pub returns : goal.returns
returns g c = λ clean.
    let (whole, stood, keeps) = c.in_ok-desk.ensures.opened (c.turn_at.ensures.clean clean) in
    record {
      entries = batch_of c.in_ok-desk.entries.items;
      under = standing_at c.in_ok-desk.desk;
      stood = stood;
      whole = whole;
      stands = keeps.docketed.standing;
      promised = c.turn_at.ensures.promised (batch_of c.in_ok-desk.entries.items) keeps;
    }
