use Rattle.desk_session.specs.Words.{lines_of}
use Rattle.docket.proofs.keep.kept_each.Goals as goal

pub returns-in-Ok-clause-promised : goal.returns-in-Ok-clause-promised
returns-in-Ok-clause-promised g c = λ kept keeps.
    let (bytes, consumed, promised) = c.enter.ensures.promised kept keeps in (lines_of bytes, promised)

pub returns-in-Err-clause-promised : goal.returns-in-Err-clause-promised
returns-in-Err-clause-promised g c = λ kept keeps.
    let (bytes, consumed, promised) = c.enter.ensures.promised kept keeps in (lines_of bytes, promised)
