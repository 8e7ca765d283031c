use Rattle.std.proofs.Common.{◌≡◌, ◌+◌, List, ℕ, length, ap, subst, sym, arith}
use Rattle.sqlite_disk.specs.Disk.{Holds}
use Rattle.desk_journal.specs.Frames.{IsShut}
use Rattle.desk_journal.proofs.UnchangedLemmas.{shut_is_unchanged, unchanged_is_shut}
use Rattle.desk_journal.proofs.unchanged.is_unchanged.Goals as goal

pub returns-in-Ok-read_at-clause-unchanged : goal.returns-in-Ok-read_at-clause-unchanged
returns-in-Ok-read_at-clause-unchanged g c = λ clean.
    let file : List ℕ = g.D.Disk.seen c.args.disk.now in
    let long : length file ≡ c.args.end + 2 = omega (arith, c.in-Ok.ensures.len (c.read_at.ensures.clean clean), c.if-len-lt2.false, c.if-len-end.false) in
    let two : length c.read_at.new.buf ≡ 2 = omega (arith, c.read_at.auto.buf, ap length c.as_mut_slice.ensures.value) in
    let held : Holds file c.args.end c.read_at.new.buf =
    subst (λ (f : List ℕ). Holds f c.args.end c.read_at.new.buf) c.len.ensures.seen (c.in-Ok-read_at.ensures.read clean (omega (arith, ap length c.as_mut_slice.ensures.value))) in (
      λ is. shut_is_unchanged file c.args.end c.read_at.new.buf long two held (subst IsShut c.as_slice.ensures (c.is_shut.ensures.0 is)),
      λ same. c.is_shut.ensures.1 (subst IsShut (sym c.as_slice.ensures) (unchanged_is_shut file c.args.end c.read_at.new.buf long two held same)),
    )
