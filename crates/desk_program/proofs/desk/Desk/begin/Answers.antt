use Rattle.std.proofs.Common.{◌≡◌, ◌∙◌, ◌∷◌, [], ℕ, List, ap, subst, sym}
use Rattle.std.specs.Prelude.{IsTrue}
use Rattle.desk_journal.specs.Words.{HasAppendFault, HasBeginFault, IsDurable, IsKept, batch_of}
use Rattle.desk_journal.specs.declared.fault.JournalFault.TheVariants as journal
use Rattle.desk_journal.proofs.CallerLemmas.{one_list, rest_kept}
use Rattle.desk_entries.specs.Words.{SaysCourt}
use Rattle.desk_entries.proofs.CallerLemmas.{first_history}
use Rattle.desk_program.proofs.DeskLemmas.{first_file}
use Rattle.desk_program.proofs.FaultLemmas.{has_entries, unless_written}
use Rattle.desk_program.proofs.desk.Desk.begin.Goals as goal

pub returns-in-Ok-append-clause-empty : goal.returns-in-Ok-append-clause-empty
returns-in-Ok-append-clause-empty g c = λ was entries is stands clean.
    let before = c.append.ensures.clean (subst (λ (d : g.row.D.Denot). IsTrue (g.D.Disk.is_clean d)) c.into_disk.ensures clean) in
    one_list was entries [] stands (c.in-Ok-begin.ensures.kept was is before).0

pub returns-in-Ok-append-clause-begun : goal.returns-in-Ok-append-clause-begun
returns-in-Ok-append-clause-begun g c = λ was is clean x left.
    let before = c.append.ensures.clean (subst (λ (d : g.row.D.Denot). IsTrue (g.D.Disk.is_clean d)) c.into_disk.ensures clean) in
    let batch : batch_of c.deref-in-Ok-begin.result.now ≡ c.args.file.items ∷ [] = ap batch_of c.deref-in-Ok-begin.ensures.value ∙ c.in-Ok-batch_with.ensures in
    rest_kept g.D.Disk c.append.new.self (c.args.file.items ∷ [])
    (subst (λ (b : List (List ℕ)). IsKept g.D.Disk b c.append.new.self) batch (c.in-Ok-append.ensures.kept [] (c.in-Ok-begin.ensures.kept was is before).2))
    x (subst (λ (d : g.row.D.Denot). g.D.Disk.may_leave d x) c.into_disk.ensures left)

pub returns-in-Ok-append-clause-history : goal.returns-in-Ok-append-clause-history
returns-in-Ok-append-clause-history g c =
    let (court, says) = c.in-Ok.ensures.court in
    first_history c.args.file.items court (subst (λ (f : List ℕ). SaysCourt f court) c.deref.ensures.value says)

pub returns-in-Ok-begin-clause-crash : goal.returns-in-Ok-begin-clause-crash
returns-in-Ok-begin-clause-crash g c = λ was entries is stands clean x left.
    let before = c.append.ensures.clean (subst (λ (d : g.row.D.Denot). IsTrue (g.D.Disk.is_clean d)) c.into_disk-in-Err-append.ensures clean) in
    let kept = c.in-Ok-begin.ensures.kept was is before in
    let batch : batch_of c.deref-in-Ok-begin.result.now ≡ c.args.file.items ∷ [] = ap batch_of c.deref-in-Ok-begin.ensures.value ∙ c.in-Ok-batch_with.ensures in
    first_file x entries (batch_of c.deref-in-Ok-begin.result.now) c.args.file.items (one_list was entries [] stands kept.0) batch
    (c.append.ensures.crash [] kept.2 x (subst (λ (d : g.row.D.Denot). g.D.Disk.may_leave d x) c.into_disk-in-Err-append.ensures left))

pub returns-in-Ok-begin-clause-taken : goal.returns-in-Ok-begin-clause-taken
returns-in-Ok-begin-clause-taken g c = λ was is clean taken.
    let before = c.append.ensures.clean (subst (λ (d : g.row.D.Denot). IsTrue (g.D.Disk.is_clean d)) c.into_disk-in-Err-append.ensures clean) in
    absurd (subst (HasAppendFault _ _ [] c.deref-in-Ok-begin.result.now) (has_entries c.in-Err-append.fault (sym c.from.ensures ∙ taken)) (c.in-Err-append.ensures.cause [] (c.in-Ok-begin.ensures.kept was is before).2))

pub returns-clause-taken : goal.returns-clause-taken
returns-clause-taken g c = λ was is clean taken.
    let fault_is = has_entries c.in-Err-begin.fault (sym c.from-in-Err-begin.ensures ∙ taken) in (
      subst (HasBeginFault _ _ was) fault_is (c.in-Err-begin.ensures.cause was is clean),
      unless_written c.in-Err-begin.fault journal.Taken (IsDurable g.D.Disk was c.in-Err-begin.disk) fault_is (λ never. never) (c.in-Err-begin.ensures.untouched was is),
    )
