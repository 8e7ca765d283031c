use Rattle.std.proofs.Common.{[], refl, subst}
use Rattle.std.specs.Prelude.{IsTrue}
use Rattle.desk_journal.proofs.journal.Journal.begin.Goals as goal

pub returns-in-Ok-clause-kept : goal.returns-in-Ok-clause-kept
returns-in-Ok-clause-kept g c = λ file was clean.
    let (none, whole, durable) = c.in-Ok.ensures.begun file was (subst (λ d. IsTrue (g.D.Disk.is_clean d)) c.from_end.ensures.disk clean) in (
      none,
      whole,
      record { fs = []; kept = c.from_end.ensures.kept [] c.none.ensures.end durable; same = refl },
    )
