use Rattle.std.proofs.Common.{◌≡◌, ◌+◌, [], ℕ, List, length, ◌∙◌, ap, subst, arith}
use Rattle.std.proofs.lemmas.Result.{err_from_is_err_and}
use Rattle.desk_journal.specs.Faults.{HasDiskFault}
use Rattle.desk_journal.specs.Reading.{IsWhole}
use Rattle.desk_journal.specs.Recovered.{IsFound}
use Rattle.desk_journal.proofs.recovery.read_disk.Goals as goal
use Rattle.desk_journal.proofs.LeftLemmas.{file_to_disk}

pub returns-in_err-found-clause-cause : goal.returns-in_err-found-clause-cause
returns-in_err-found-clause-cause g c = λ file was.
    let p = err_from_is_err_and c.from_residual-in_err-found.result c.from_residual-in_err-found.ensures.1 in
    rw (p.1, p.2) (λ clean.
    let long : 0 + c.in_ok-len.len ≡ length (g.D.Disk.seen c.length_of.new.disk) = omega (arith, c.in_ok-len.ensures.len (c.read_from.ensures.clean clean), ap length c.length_of.ensures.untouched.same) in
    let bytes_are : c.deref.result.now ≡ file = c.deref.ensures.value ∙ c.in_ok-bytes.ensures.bytes clean long ∙ c.length_of.ensures.untouched.same ∙ was.read in
    subst (λ (f : List ℕ). HasDiskFault (g.D.Disk.faults c.args.disk.now) (g.D.Disk.faults c.read_from.new.disk) f c.in_err-found.field-0.0) bytes_are
    (file_to_disk _ _ c.deref.result.now c.in_err-found.field-0.0 (c.in_err-found.ensures.cause [] c.none.ensures.end (omega (arith, c.if-len-le2.false, c.len.ensures, ap length c.deref.ensures.value)))))

pub returns-clause-found : goal.returns-clause-found
returns-clause-found g c = λ file was clean.
    let found = c.in_ok-found.found in
    let long : 0 + c.in_ok-len.len ≡ length (g.D.Disk.seen c.length_of.new.disk) = omega (arith, c.in_ok-len.ensures.len (c.read_from.ensures.clean clean), ap length c.length_of.ensures.untouched.same) in
    let bytes_are : c.deref.result.now ≡ file = c.deref.ensures.value ∙ c.in_ok-bytes.ensures.bytes clean long ∙ c.length_of.ensures.untouched.same ∙ was.read in (
      subst (λ (f : List ℕ). IsFound [] f found.entries.items found.stamps.items found.end) bytes_are (c.in_ok-found.ensures.found [] c.none.ensures.end),
      subst IsWhole bytes_are (c.in_ok-found.ensures.whole [] c.none.ensures.end (omega (arith, c.if-len-le2.false, c.len.ensures, ap length c.deref.ensures.value))),
    )
