use Rattle.std.proofs.Common.{◌≤◌, List, ℕ, length, sym, subst, arith}
use Rattle.std.specs.Prelude.{OnOk}
use Rattle.desk_journal.specs.Disks.{IsDurable}
use Rattle.desk_journal.proofs.latch.write_shut.Goals as goal
use Rattle.desk_journal.proofs.DiskLemmas.{crash_shut, shut_written}

pub returns-in-Ok-clause-durable : goal.returns-in-Ok-clause-durable
returns-in-Ok-clause-durable g c = λ file short was.
    subst (λ (f : List ℕ). OnOk c.sync.result (IsDurable g.D.Disk f c.sync.new.disk))
    (shut_written (g.D.Disk.seen c.args.disk.now) (g.D.Disk.seen c.write_at.new.self) (subst (λ (f : List ℕ). length f ≤ 2) (sym was.read) short) c.write_at.ensures.others (c.in-Ok.ensures.written (omega arith)))
    c.sync.ensures.durable

pub returns-in-Ok-clause-crash : goal.returns-in-Ok-clause-crash
returns-in-Ok-clause-crash g c = λ file short was x left.
    crash_shut file (g.D.Disk.may_leave c.args.disk.now) (g.D.Disk.may_leave c.write_at.new.self) short was.only c.write_at.ensures.crash x (c.sync.ensures.crash x left)

pub returns-in-Err-clause-crash : goal.returns-in-Err-clause-crash
returns-in-Err-clause-crash g c = λ file short was x left.
    crash_shut file (g.D.Disk.may_leave c.args.disk.now) (g.D.Disk.may_leave c.write_at.new.self) short was.only c.write_at.ensures.crash x left
