use Rattle.std.proofs.Common.{◌≡◌, ◌≤◌, ◌++◌, ◌∙◌, sym, ap, subst, arith}
use Rattle.std.specs.Prelude.{IsTrue, max}
use Rattle.desk_journal.specs.Frames.{stamps_of}
use Rattle.desk_journal.specs.Stamps.{StampView, time_after}
use Rattle.desk_journal.proofs.journal.Journal.resume.Goals as goal
use Rattle.desk_journal.proofs.OneList.{one_list_of_stamps}
use Rattle.desk_journal.proofs.RecoverLemmas.{few_kept, found_has_stamps, resumed_kept}
use Rattle.desk_journal.proofs.StampLemmas.{latest}

pub returns-in-Ok-clause-kept : goal.returns-in-Ok-clause-kept
returns-in-Ok-clause-kept g c = λ file fs was ends begins clean.
    let r = c.in-Ok.found in
    let repaired = c.in-Ok.ensures.entries file fs was ends begins (subst (λ d. IsTrue (g.D.Disk.is_clean d)) c.from_end.ensures.disk clean) in
    resumed_kept g.D.Disk file r.entries.items r.stamps.items r.end c.follow.new.disk fs c.from_end.result repaired (c.from_end.ensures.kept (fs ++ repaired.found.more) repaired.found.end_is repaired.durable)

pub returns-in-Ok-clause-few : goal.returns-in-Ok-clause-few
returns-in-Ok-clause-few g c = λ file fs was ends begins clean.
    let r = c.in-Ok.found in
    let repaired = c.in-Ok.ensures.entries file fs was ends begins (subst (λ d. IsTrue (g.D.Disk.is_clean d)) c.from_end.ensures.disk clean) in
    few_kept g.D.Disk file r.entries.items r.stamps.items r.end c.follow.new.disk fs repaired

pub returns-in-Ok-clause-time : goal.returns-in-Ok-clause-time
returns-in-Ok-clause-time g c = λ file fs stamps was ends begins has clean.
    let r = c.in-Ok.found in
    let repaired = c.in-Ok.ensures.entries file fs was ends begins (subst (λ d. IsTrue (g.D.Disk.is_clean d)) c.from_end.ensures.disk clean) in
    let time = max c.args.stamp.time c.args.end.now.time in
    let own : c.not_before.new.self.time ≡ time = ap (λ (s : StampView). s.time) c.not_before.ensures in
    let here : stamps_of (fs ++ repaired.found.more) ≡ stamps =
    one_list_of_stamps file (stamps_of (fs ++ repaired.found.more)) stamps (found_has_stamps fs file r.entries.items r.stamps.items r.end repaired.found) has in
    let later : c.args.end.now.time ≤ time = omega arith in
    ap (λ (s : StampView). s.time) c.from_end.ensures.stamp
    ∙ ap (λ n. max n r.end.time) own
    ∙ ap (max time) (c.in-Ok.ensures.time ∙ ap (time_after c.args.end.now.time) repaired.found.stamped)
    ∙ sym (latest fs repaired.found.more c.args.end.now.time time ends.time later)
    ∙ ap (λ l. max time (time_after 0 l)) here

pub returns-in-Ok-clause-begins : goal.returns-in-Ok-clause-begins
returns-in-Ok-clause-begins g c = λ file fs first was ends begins whole begins_first clean x left.
    c.in-Ok.ensures.begins file fs first was ends begins whole begins_first (subst (λ d. IsTrue (g.D.Disk.is_clean d)) c.from_end.ensures.disk clean) x (subst (λ d. g.D.Disk.may_leave d x) c.from_end.ensures.disk left)
