use Rattle.std.proofs.Common.{◌≡◌, ◌∙◌, ◌++◌, ℕ, List, true, sym, subst}
use Rattle.std.specs.Prelude.{IsTrue, Vec}
use Rattle.std.specs.declared.alloc.Global.{Global}
use Rattle.desk_journal.specs.Words.{IsDurable, IsKept, batch_of, disk_of, entries_of}
use Rattle.desk_journal.specs.declared.fault.JournalFault.TheVariants as journal
use Rattle.desk_journal.specs.declared.journal.Journal.{Journal}
use Rattle.desk_journal.proofs.CallerLemmas.{rest_kept, resumed_is_kept, resumed_stands}
use Rattle.desk_entries.specs.declared.docketed.Docketed.{Docketed}
use Rattle.desk_entries.specs.Words.{HasDocketFault, IsDocketed, are_rows, goes_on}
use Rattle.desk_program.proofs.DeskLemmas.{same_entries}
use Rattle.desk_program.proofs.FaultLemmas.{unless_written}
use Rattle.desk_program.proofs.OpenLemmas.{unopened_by_history}
use Rattle.desk_program.proofs.RememberedLemmas.{a_correction, all_rows, few_room, history_never_replaced, kept_few, replaced_changed, unresumed_by_journal}
use Rattle.desk_program.proofs.remembered.Remembered.resume.Goals as goal

pub returns-in-Err-clause-crash : goal.returns-in-Err-clause-crash
returns-in-Err-clause-crash g c = λ file fs entries was remembers begins stands. c.in-Err.ensures.crash file fs entries was remembers.ends begins stands

pub returns-in-Err-clause-cause : goal.returns-in-Err-clause-cause
returns-in-Err-clause-cause g c = λ file fs was remembers some begins clean.
    unresumed_by_journal (g.D.Disk.faults c.args.disk) (g.D.Disk.faults c.in-Err.disk) file c.in-Err.fault c.of_resumed.result c.of_resumed.ensures
    (c.in-Err.ensures.cause file fs was remembers.ends some begins clean)

pub returns-in-Err-clause-untouched : goal.returns-in-Err-clause-untouched
returns-in-Err-clause-untouched g c = λ file was is.
    unless_written c.in-Err.fault journal.Changed (IsDurable g.D.Disk file c.in-Err.disk) (replaced_changed c.in-Err.fault (sym c.of_resumed.ensures ∙ is)) (λ never. never) (c.in-Err.ensures.untouched file was)

pub returns-in-Ok-true-clause-resumed : goal.returns-in-Ok-true-clause-resumed
returns-in-Ok-true-clause-resumed g c = λ file fs was remembers begins clean.
    let before = entries_of fs in
    let more = batch_of c.in-Ok.resumed.1.items in
    let all = c.in-Ok.ensures.kept file fs was remembers.ends begins (subst (λ (j : Journal g.row.D.Denot). IsTrue (g.D.Disk.is_clean (disk_of j))) c.over.ensures.journal clean) in
    let kept = resumed_is_kept g.D.Disk fs file c.in-Ok.resumed.1.items c.in-Ok.resumed.0 all in
    record {
      more = more;
      rows = subst (λ (e : List (Vec ℕ Global)). are_rows (batch_of e) ≡ true) c.deref.ensures.value
          (all_rows before (batch_of c.deref.result.now) c.in-Ok-true.field-0 c.in-Ok-true.field-0-test (c.in-Ok-true.ensures.taken before remembers.docketed));
      stands = resumed_stands g.D.Disk fs file c.in-Ok.resumed.1.items c.in-Ok.resumed.0 all;
      undamaged = all.undamaged;
      keeps = record {
        kept = subst (λ (j : Journal g.row.D.Denot). IsKept g.D.Disk (before ++ more) j) (sym c.over.ensures.journal) kept;
        docketed = subst (λ (d : Docketed). IsDocketed d (before ++ more)) (sym c.over.ensures.docketed)
            (subst (λ (e : List (Vec ℕ Global)). IsDocketed c.follow.new.self (before ++ batch_of e)) c.deref.ensures.value (c.in-Ok-true.ensures.docketed before remembers.docketed c.in-Ok-true.field-0-test));
      };
    }

pub returns-in-Ok-false-clause-resumed : goal.returns-in-Ok-false-clause-resumed
returns-in-Ok-false-clause-resumed g c = λ file fs was remembers begins clean.
    let before = entries_of fs in
    let more = batch_of c.in-Ok.resumed.1.items in
    let all = c.in-Ok.ensures.kept file fs was remembers.ends begins (subst (λ (d : g.row.D.Denot). IsTrue (g.D.Disk.is_clean d)) c.into_disk.ensures clean) in
    let kept = resumed_is_kept g.D.Disk fs file c.in-Ok.resumed.1.items c.in-Ok.resumed.0 all in
    record {
      more = more;
      corrected = a_correction before more c.in-Ok-false.field-0 c.in-Ok-false.field-0-test
          (subst (λ (e : List (Vec ℕ Global)). c.in-Ok-false.field-0 ≡ goes_on before (batch_of e)) c.deref.ensures.value (c.in-Ok-false.ensures.taken before remembers.docketed))
          (few_room before more (kept_few g.D.Disk c.in-Ok.resumed.0 (before ++ more) kept));
      stands = resumed_stands g.D.Disk fs file c.in-Ok.resumed.1.items c.in-Ok.resumed.0 all;
      undamaged = all.undamaged;
      left = λ x left. rest_kept g.D.Disk c.in-Ok.resumed.0 (before ++ more) kept x (subst (λ (d : g.row.D.Denot). g.D.Disk.may_leave d x) c.into_disk.ensures left);
    }

pub returns-in-Err-follow-clause-crash : goal.returns-in-Err-follow-clause-crash
returns-in-Err-follow-clause-crash g c = λ file fs entries was remembers begins stands clean x left.
    let before = entries_of fs in
    let more = batch_of c.in-Ok.resumed.1.items in
    let all = c.in-Ok.ensures.kept file fs was remembers.ends begins (subst (λ (d : g.row.D.Denot). IsTrue (g.D.Disk.is_clean d)) c.into_disk-in-Err-follow.ensures clean) in
    same_entries file x (before ++ more) entries (resumed_stands g.D.Disk fs file c.in-Ok.resumed.1.items c.in-Ok.resumed.0 all) stands
    (rest_kept g.D.Disk c.in-Ok.resumed.0 (before ++ more) (resumed_is_kept g.D.Disk fs file c.in-Ok.resumed.1.items c.in-Ok.resumed.0 all) x
    (subst (λ (d : g.row.D.Denot). g.D.Disk.may_leave d x) c.into_disk-in-Err-follow.ensures left))

pub returns-in-Err-follow-clause-cause : goal.returns-in-Err-follow-clause-cause
returns-in-Err-follow-clause-cause g c = λ file fs was remembers some begins clean.
    let before = entries_of fs in
    let all = c.in-Ok.ensures.kept file fs was remembers.ends begins (subst (λ (d : g.row.D.Denot). IsTrue (g.D.Disk.is_clean d)) c.into_disk-in-Err-follow.ensures clean) in
    unopened_by_history (g.D.Disk.faults c.args.disk) (g.D.Disk.faults c.into_disk-in-Err-follow.result) file (before ++ batch_of c.in-Ok.resumed.1.items) c.in-Err-follow.fault c.from.result c.from.ensures
    (resumed_stands g.D.Disk fs file c.in-Ok.resumed.1.items c.in-Ok.resumed.0 all)
    (subst (λ (e : List (Vec ℕ Global)). HasDocketFault (before ++ batch_of e) c.in-Err-follow.fault) c.deref.ensures.value (c.in-Err-follow.ensures.cause before remembers.docketed))

pub returns-in-Err-follow-clause-untouched : goal.returns-in-Err-follow-clause-untouched
returns-in-Err-follow-clause-untouched g c = λ file was is. absurd (history_never_replaced c.in-Err-follow.fault (sym c.from.ensures ∙ is))
