use Rattle.std.proofs.Common.{ℕ, List, sym, subst}
use Rattle.desk_entries.specs.Docketed.{IsBadFile}
use Rattle.desk_entries.proofs.FaultyLemmas.{bad_first_of}
use Rattle.desk_entries.proofs.what_stands.standing_after.Goals as goal

pub returns-in-Err-clause-cause : goal.returns-in-Err-clause-cause
returns-in-Err-clause-cause c =
    bad_first_of (λ before. Unit {0}) c.args.entries.now c.in-Some.file.now c.in-Err.fault tt (sym c.in-Some.ensures.value)
    (subst (λ (f : List ℕ). IsBadFile f 1 c.in-Err.fault) c.deref.ensures.value c.in-Err.ensures.cause)
