use Rattle.std.proofs.Common.{◌≡◌, List, ℕ, ◌≤◌, [], ◌∷◌, ◌++◌, length, drop, sym, ◌∙◌, subst, arith}
use Rattle.std.proofs.lemmas.Grind.{common_steps}
use Rattle.std.proofs.lemmas.Result.{err_from_is_err_and, on_ok_weaker}
use Rattle.desk_journal.specs.Disks.{IsDurable}
use Rattle.desk_journal.specs.Frames.{first_checksum, frames}
use Rattle.desk_journal.specs.Recovered.{Finds}
use Rattle.desk_journal.proofs.recovery.begin.Goals as goal
use Rattle.desk_journal.proofs.RecoverLemmas.{disk_unbegun, found_durable, found_left, no_frames, none_found, on_ok_given, short_stands, some_found}

pub returns-in_err-read_disk-clause-cause : goal.returns-in_err-read_disk-clause-cause
returns-in_err-read_disk-clause-cause g c = λ file was.
    let p = err_from_is_err_and c.from_residual.result c.from_residual.ensures.1 in
    rw (p.1, p.2) (λ clean. disk_unbegun _ _ file _ (c.in_err-read_disk.ensures.cause file was clean))

pub returns-then-not-is_empty-clause-cause : goal.returns-then-not-is_empty-clause-cause
returns-then-not-is_empty-clause-cause g c = λ file was clean.
    let r = c.in-Some.found in
    let found = (subst (Finds file) c.in-Some.is (c.in_ok-read_disk.ensures.found file was clean)).0 in
    some_found file r.entries.items r.stamps.items r.end found (grind (arith, common_steps))

pub returns-in-None-clause-crash : goal.returns-in-None-clause-crash
returns-in-None-clause-crash g c = λ file entries was stood clean x left.
    let short : length file ≤ 2 = subst (Finds file) c.in-None.is (c.in_ok-read_disk.ensures.found file was (sym c.write_shut.ensures.clean ∙ clean)) in
    short_stands file x entries short (c.write_shut.ensures.crash file short (c.read_disk.ensures.durable file was) x left) stood

pub returns-else-not-is_empty-clause-begun : goal.returns-else-not-is_empty-clause-begun
returns-else-not-is_empty-clause-begun g c = λ file was.
    let r = c.in-Some.found in
    on_ok_given c.cut_behind.result _ _ (λ clean.
    let (found, whole) = subst (Finds file) c.in-Some.is (c.in_ok-read_disk.ensures.found file was (sym c.cut_behind.ensures.clean ∙ clean)) in
    let mid = found_durable [] file r.entries.items r.stamps.items r.end found g.D.Disk c.read_disk.new.disk (c.read_disk.ensures.durable file was) in
    let none : length r.entries.items ≡ 0 = grind (arith, common_steps) in
    on_ok_weaker c.cut_behind.result
    (λ durable. (
      none_found file r.entries.items r.stamps.items r.end found none,
      whole,
      subst (λ (f : List ℕ). IsDurable g.D.Disk (f ++ 45 ∷ 45 ∷ []) c.cut_behind.new.disk) (no_frames file r.entries.items r.stamps.items r.end found none) durable,
    ))
    (c.cut_behind.ensures.durable (frames first_checksum found.more) (drop 2 found.rest) found.end_is.place mid))

pub returns-else-not-is_empty-clause-crash : goal.returns-else-not-is_empty-clause-crash
returns-else-not-is_empty-clause-crash g c = λ file entries was stood clean x left.
    let r = c.in-Some.found in
    let found = (subst (Finds file) c.in-Some.is (c.in_ok-read_disk.ensures.found file was (sym c.cut_behind.ensures.clean ∙ clean))).0 in
    let mid = found_durable [] file r.entries.items r.stamps.items r.end found g.D.Disk c.read_disk.new.disk (c.read_disk.ensures.durable file was) in
    found_left [] file r.entries.items r.stamps.items r.end found x entries stood (c.cut_behind.ensures.crash (frames first_checksum found.more) (drop 2 found.rest) found.end_is.place mid x left)
