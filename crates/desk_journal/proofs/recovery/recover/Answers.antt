use Rattle.std.proofs.Common.{[], drop, sym, ◌∙◌, subst, arith}
use Rattle.std.proofs.lemmas.Grind.{common_steps}
use Rattle.std.proofs.lemmas.Result.{err_from_is_err_and}
use Rattle.desk_journal.specs.Frames.{first_checksum, frames}
use Rattle.desk_journal.specs.Recovered.{Finds}
use Rattle.desk_journal.proofs.recovery.recover.Goals as goal
use Rattle.desk_journal.proofs.RecoverLemmas.{disk_unopened, found_begins, found_durable, found_left, none_found}

pub returns-in_err-read_disk-clause-cause : goal.returns-in_err-read_disk-clause-cause
returns-in_err-read_disk-clause-cause g c = λ file was.
    let p = err_from_is_err_and c.from_residual.result c.from_residual.ensures.1 in
    rw (p.1, p.2) (λ clean. disk_unopened _ _ file _ (c.in_err-read_disk.ensures.cause file was clean))

pub returns-then-is_empty-clause-cause : goal.returns-then-is_empty-clause-cause
returns-then-is_empty-clause-cause g c = λ file was clean.
    let r = c.in-Some.found in
    let found = (subst (Finds file) c.in-Some.is (c.in_ok-read_disk.ensures.found file was clean)).0 in
    none_found file r.entries.items r.stamps.items r.end found (grind (arith, common_steps))

pub returns-in_err-cut_behind-in-Some-clause-crash : goal.returns-in_err-cut_behind-in-Some-clause-crash
returns-in_err-cut_behind-in-Some-clause-crash g c = λ file entries was stood clean x left.
    let r = c.in-Some.found in
    let found = (subst (Finds file) c.in-Some.is (c.in_ok-read_disk.ensures.found file was (sym c.cut_behind.ensures.clean ∙ clean))).0 in
    let mid = found_durable [] file r.entries.items r.stamps.items r.end found g.D.Disk c.read_disk.new.disk (c.read_disk.ensures.durable file was) in
    found_left [] file r.entries.items r.stamps.items r.end found x entries stood (c.cut_behind.ensures.crash (frames first_checksum found.more) (drop 2 found.rest) found.end_is.place mid x left)

pub returns-in_ok-cut_behind-in-Some-clause-crash : goal.returns-in_ok-cut_behind-in-Some-clause-crash
returns-in_ok-cut_behind-in-Some-clause-crash g c = λ file entries was stood clean x left.
    let r = c.in-Some.found in
    let found = (subst (Finds file) c.in-Some.is (c.in_ok-read_disk.ensures.found file was (sym c.cut_behind.ensures.clean ∙ clean))).0 in
    let mid = found_durable [] file r.entries.items r.stamps.items r.end found g.D.Disk c.read_disk.new.disk (c.read_disk.ensures.durable file was) in
    found_left [] file r.entries.items r.stamps.items r.end found x entries stood (c.cut_behind.ensures.crash (frames first_checksum found.more) (drop 2 found.rest) found.end_is.place mid x left)

pub returns-in_err-cut_behind-in-Some-clause-begins : goal.returns-in_err-cut_behind-in-Some-clause-begins
returns-in_err-cut_behind-in-Some-clause-begins g c = λ file first was whole begins clean x left.
    let r = c.in-Some.found in
    let found = (subst (Finds file) c.in-Some.is (c.in_ok-read_disk.ensures.found file was (sym c.cut_behind.ensures.clean ∙ clean))).0 in
    let mid = found_durable [] file r.entries.items r.stamps.items r.end found g.D.Disk c.read_disk.new.disk (c.read_disk.ensures.durable file was) in
    found_begins [] file r.entries.items r.stamps.items r.end found x first whole begins (c.cut_behind.ensures.crash (frames first_checksum found.more) (drop 2 found.rest) found.end_is.place mid x left)

pub returns-in_ok-cut_behind-in-Some-clause-begins : goal.returns-in_ok-cut_behind-in-Some-clause-begins
returns-in_ok-cut_behind-in-Some-clause-begins g c = λ file first was whole begins clean x left.
    let r = c.in-Some.found in
    let found = (subst (Finds file) c.in-Some.is (c.in_ok-read_disk.ensures.found file was (sym c.cut_behind.ensures.clean ∙ clean))).0 in
    let mid = found_durable [] file r.entries.items r.stamps.items r.end found g.D.Disk c.read_disk.new.disk (c.read_disk.ensures.durable file was) in
    found_begins [] file r.entries.items r.stamps.items r.end found x first whole begins (c.cut_behind.ensures.crash (frames first_checksum found.more) (drop 2 found.rest) found.end_is.place mid x left)

pub returns-in_ok-cut_behind-in-Some-clause-entries : goal.returns-in_ok-cut_behind-in-Some-clause-entries
returns-in_ok-cut_behind-in-Some-clause-entries g c = λ file was clean.
    let r = c.in-Some.found in
    let (found, whole) = subst (Finds file) c.in-Some.is (c.in_ok-read_disk.ensures.found file was (sym c.cut_behind.ensures.clean ∙ clean)) in
    let mid = found_durable [] file r.entries.items r.stamps.items r.end found g.D.Disk c.read_disk.new.disk (c.read_disk.ensures.durable file was) in
    record {
      found = found;
      undamaged = whole;
      durable = c.in_ok-cut_behind-in-Some.ensures.durable (frames first_checksum found.more) (drop 2 found.rest) found.end_is.place mid;
    }
