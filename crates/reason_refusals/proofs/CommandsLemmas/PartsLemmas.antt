-- Parts that hold the same are the same parts, so whatever is said of one is said of the other.
use Rattle.std.proofs.Common.{◌≡◌, refl}
use Rattle.std.proofs.Math.Path.{fun_ext}
use Rattle.docket_rows.specs.declared.part.PartId.{PartId}
use Rattle.docket_rows.specs.Words.{Parts, part_value}
use Rattle.docket_laws.proofs.CallerLemmas.{hold_same}

pub parts_same : (p q : Parts) → ((part : PartId) → part_value p part ≡ part_value q part) → p ≡ q
parts_same p q same =
    let held = hold_same p q same in
    rw (held.days, fun_ext held.case, fun_ext held.judge, fun_ext held.room) refl
