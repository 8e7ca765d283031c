use Rattle.std.proofs.Common.{◌∙◌, ℕ, List, subst, sym}
use Rattle.std.specs.Prelude.{IsTrue, Vec}
use Rattle.std.specs.declared.alloc.Global.{Global}
use Rattle.desk_journal.specs.Words.{IsDurable, batch_of}
use Rattle.desk_journal.specs.declared.fault.JournalFault.TheVariants as journal
use Rattle.desk_journal.proofs.CallerLemmas.{rest_kept}
use Rattle.desk_entries.specs.Words.{HasDocketFault, IsDocketed}
use Rattle.desk_program.proofs.DeskLemmas.{same_entries}
use Rattle.desk_program.proofs.FaultLemmas.{no_entries, unless_written}
use Rattle.desk_program.proofs.OpenLemmas.{unopened_by_history, unopened_by_journal}
use Rattle.desk_program.proofs.desk.Desk.open.Goals as goal

pub returns-in-Ok-of-clause-opened : goal.returns-in-Ok-of-clause-opened
returns-in-Ok-of-clause-opened g c = λ file was clean.
    let all = c.in-Ok.ensures.kept file was clean in (
      all.0,
      record {
        kept = all.2;
        docketed = subst (λ (e : List (Vec ℕ Global)). IsDocketed c.in-Ok-of.field-0 (batch_of e)) c.deref.ensures.value c.in-Ok-of.ensures.docketed;
      },
    )

pub returns-in-Err-of-clause-crash : goal.returns-in-Err-of-clause-crash
returns-in-Err-of-clause-crash g c = λ file entries was stands clean x left.
    let all = c.in-Ok.ensures.kept file was (subst (λ (d : g.row.D.Denot). IsTrue (g.D.Disk.is_clean d)) c.into_disk.ensures clean) in
    same_entries file x (batch_of c.in-Ok.opened.1.items) entries all.0 stands
    (rest_kept g.D.Disk c.in-Ok.opened.0 (batch_of c.in-Ok.opened.1.items) all.2 x
    (subst (λ (d : g.row.D.Denot). g.D.Disk.may_leave d x) c.into_disk.ensures left))

pub returns-in-Ok-of-clause-whole : goal.returns-in-Ok-of-clause-whole
returns-in-Ok-of-clause-whole g c = λ file was clean. (c.in-Ok.ensures.kept file was clean).1

pub returns-in-Err-of-clause-cause : goal.returns-in-Err-of-clause-cause
returns-in-Err-of-clause-cause g c = λ file was clean.
    let all = c.in-Ok.ensures.kept file was (subst (λ (d : g.row.D.Denot). IsTrue (g.D.Disk.is_clean d)) c.into_disk.ensures clean) in
    unopened_by_history (g.D.Disk.faults c.args.disk) (g.D.Disk.faults c.into_disk.result) file (batch_of c.in-Ok.opened.1.items) c.in-Err-of.fault c.from-in-Err-of.result c.from-in-Err-of.ensures all.0
    (subst (λ (e : List (Vec ℕ Global)). HasDocketFault (batch_of e) c.in-Err-of.fault) c.deref.ensures.value c.in-Err-of.ensures.cause)

pub returns-in-Err-clause-cause : goal.returns-in-Err-clause-cause
returns-in-Err-clause-cause g c = λ file was clean.
    unopened_by_journal (g.D.Disk.faults c.args.disk) (g.D.Disk.faults c.in-Err.disk) file c.in-Err.fault c.from.result c.from.ensures (c.in-Err.ensures.cause file was clean)

pub returns-in-Err-clause-none : goal.returns-in-Err-clause-none
returns-in-Err-clause-none g c = λ file was is.
    unless_written c.in-Err.fault journal.NoEntries (IsDurable g.D.Disk file c.in-Err.disk) (no_entries c.in-Err.fault (sym c.from.ensures ∙ is)) (λ never. never) (c.in-Err.ensures.untouched file was)
