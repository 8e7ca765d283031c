use Rattle.std.proofs.Common.{◌≡◌, ◌∙◌, ap, subst}
use Rattle.std.specs.Prelude.{IsTrue, max}
use Rattle.desk_journal.specs.Batches.{batch_of}
use Rattle.desk_journal.specs.Stamps.{StampView, time_after}
use Rattle.desk_journal.proofs.journal.Journal.open.Goals as goal
use Rattle.desk_journal.proofs.OneList.{one_list_of_stamps}
use Rattle.desk_journal.proofs.RecoverLemmas.{found_stamped, found_whole, opened_kept}

pub returns-in-Ok-clause-kept : goal.returns-in-Ok-clause-kept
returns-in-Ok-clause-kept g c = λ file was clean.
    let r = c.in-Ok.found in
    let repaired = c.in-Ok.ensures.entries file was (subst (λ d. IsTrue (g.D.Disk.is_clean d)) c.from_end.ensures.disk clean) in (
      found_whole file r.entries.items r.stamps.items r.end repaired.found,
      repaired.undamaged,
      opened_kept g.D.Disk file r.entries.items r.stamps.items r.end c.recover.new.disk c.from_end.result repaired (c.from_end.ensures.kept repaired.found.more repaired.found.end_is repaired.durable),
    )

pub returns-in-Ok-clause-time : goal.returns-in-Ok-clause-time
returns-in-Ok-clause-time g c = λ file stamps was has clean.
    let r = c.in-Ok.found in
    let repaired = c.in-Ok.ensures.entries file was (subst (λ d. IsTrue (g.D.Disk.is_clean d)) c.from_end.ensures.disk clean) in
    let here : r.stamps.items ≡ stamps = one_list_of_stamps file r.stamps.items stamps (batch_of r.entries.items, found_stamped file r.entries.items r.stamps.items r.end repaired.found) has in
    ap (λ (s : StampView). s.time) c.from_end.ensures.stamp ∙ ap (λ n. max c.args.stamp.time n) (c.in-Ok.ensures.time ∙ ap (time_after 0) here)

pub returns-in-Ok-clause-begins : goal.returns-in-Ok-clause-begins
returns-in-Ok-clause-begins g c = λ file first was whole begins clean x left.
    c.in-Ok.ensures.begins file first was whole begins (subst (λ d. IsTrue (g.D.Disk.is_clean d)) c.from_end.ensures.disk clean) x (subst (λ d. g.D.Disk.may_leave d x) c.from_end.ensures.disk left)
