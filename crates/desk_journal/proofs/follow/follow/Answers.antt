use Rattle.std.proofs.Common.{◌++◌, drop, sym, ◌∙◌, subst}
use Rattle.std.proofs.lemmas.Result.{err_from_is_err_and}
use Rattle.desk_journal.specs.Frames.{StandsFor, first_checksum, frames}
use Rattle.desk_journal.proofs.follow.follow.Goals as goal
use Rattle.desk_journal.proofs.RecoverLemmas.{disk_unresumed, first_undamaged, found_begins, found_durable, found_left}

pub returns-in_err-found-clause-crash : goal.returns-in_err-found-clause-crash
returns-in_err-found-clause-crash g c = λ file fs entries was ends begins stood clean x left.
    subst (λ f. StandsFor f entries) (sym ((c.read_more.ensures.durable file was).only x left)) stood

pub returns-in_err-found-clause-cause : goal.returns-in_err-found-clause-cause
returns-in_err-found-clause-cause g c = λ file fs was ends some begins.
    let p = err_from_is_err_and c.from_residual.result c.from_residual.ensures.1 in
    rw (p.1, p.2) (λ clean. disk_unresumed _ _ file _ (first_undamaged file fs ends.whole some begins) (c.in_err-found.ensures.cause file fs was ends some begins clean))

pub returns-in_err-cut_behind-clause-crash : goal.returns-in_err-cut_behind-clause-crash
returns-in_err-cut_behind-clause-crash g c = λ file fs entries was ends begins stood clean x left.
    let r = c.in_ok-found.found in
    let found = (c.in_ok-found.ensures.found file fs was ends begins (sym c.cut_behind.ensures.clean ∙ clean)).0 in
    let mid = found_durable fs file r.entries.items r.stamps.items r.end found g.D.Disk c.read_more.new.disk (c.read_more.ensures.durable file was) in
    found_left fs file r.entries.items r.stamps.items r.end found x entries stood (c.cut_behind.ensures.crash (frames first_checksum (fs ++ found.more)) (drop 2 found.rest) found.end_is.place mid x left)

pub returns-in_err-cut_behind-clause-begins : goal.returns-in_err-cut_behind-clause-begins
returns-in_err-cut_behind-clause-begins g c = λ file fs first was ends begins whole begins_first clean x left.
    let r = c.in_ok-found.found in
    let found = (c.in_ok-found.ensures.found file fs was ends begins (sym c.cut_behind.ensures.clean ∙ clean)).0 in
    let mid = found_durable fs file r.entries.items r.stamps.items r.end found g.D.Disk c.read_more.new.disk (c.read_more.ensures.durable file was) in
    found_begins fs file r.entries.items r.stamps.items r.end found x first whole begins_first (c.cut_behind.ensures.crash (frames first_checksum (fs ++ found.more)) (drop 2 found.rest) found.end_is.place mid x left)

pub returns-clause-entries : goal.returns-clause-entries
returns-clause-entries g c = λ file fs was ends begins clean.
    let r = c.in_ok-found.found in
    let (found, whole) = c.in_ok-found.ensures.found file fs was ends begins (sym c.cut_behind.ensures.clean ∙ clean) in
    let mid = found_durable fs file r.entries.items r.stamps.items r.end found g.D.Disk c.read_more.new.disk (c.read_more.ensures.durable file was) in
    record {
      found = found;
      undamaged = whole;
      durable = c.in_ok-cut_behind.ensures.durable (frames first_checksum (fs ++ found.more)) (drop 2 found.rest) found.end_is.place mid;
    }

pub returns-clause-crash : goal.returns-clause-crash
returns-clause-crash g c = λ file fs entries was ends begins stood clean x left.
    let r = c.in_ok-found.found in
    let found = (c.in_ok-found.ensures.found file fs was ends begins (sym c.cut_behind.ensures.clean ∙ clean)).0 in
    let mid = found_durable fs file r.entries.items r.stamps.items r.end found g.D.Disk c.read_more.new.disk (c.read_more.ensures.durable file was) in
    found_left fs file r.entries.items r.stamps.items r.end found x entries stood (c.cut_behind.ensures.crash (frames first_checksum (fs ++ found.more)) (drop 2 found.rest) found.end_is.place mid x left)

pub returns-clause-begins : goal.returns-clause-begins
returns-clause-begins g c = λ file fs first was ends begins whole begins_first clean x left.
    let r = c.in_ok-found.found in
    let found = (c.in_ok-found.ensures.found file fs was ends begins (sym c.cut_behind.ensures.clean ∙ clean)).0 in
    let mid = found_durable fs file r.entries.items r.stamps.items r.end found g.D.Disk c.read_more.new.disk (c.read_more.ensures.durable file was) in
    found_begins fs file r.entries.items r.stamps.items r.end found x first whole begins_first (c.cut_behind.ensures.crash (frames first_checksum (fs ++ found.more)) (drop 2 found.rest) found.end_is.place mid x left)
