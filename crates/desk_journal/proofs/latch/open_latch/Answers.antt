use Rattle.std.proofs.Common.{List, ℕ, subst, arith}
use Rattle.std.specs.Prelude.{OnOk}
use Rattle.desk_journal.specs.Disks.{IsDurable}
use Rattle.desk_journal.proofs.latch.open_latch.Goals as goal
use Rattle.desk_journal.proofs.DiskLemmas.{crash_latch, latch_written}

pub returns-in-Ok-clause-durable : goal.returns-in-Ok-clause-durable
returns-in-Ok-clause-durable g c = λ front tail a b is was.
    subst (λ (file : List ℕ). OnOk c.sync.result (IsDurable g.D.Disk file c.sync.new.disk))
    (latch_written front tail c.args.at a b 43 43 (g.D.Disk.seen c.args.disk.now) (g.D.Disk.seen c.write_at.new.self) is was.read c.write_at.ensures.others (c.in-Ok.ensures.written (omega arith)))
    c.sync.ensures.durable

pub returns-in-Ok-clause-crash : goal.returns-in-Ok-clause-crash
returns-in-Ok-clause-crash g c = λ front tail a b is was x left.
    crash_latch front tail c.args.at a b (g.D.Disk.may_leave c.args.disk.now) (g.D.Disk.may_leave c.write_at.new.self) is was.only c.write_at.ensures.crash x (c.sync.ensures.crash x left)

pub returns-in-Err-clause-crash : goal.returns-in-Err-clause-crash
returns-in-Err-clause-crash g c = λ front tail a b is was x left.
    crash_latch front tail c.args.at a b (g.D.Disk.may_leave c.args.disk.now) (g.D.Disk.may_leave c.write_at.new.self) is was.only c.write_at.ensures.crash x left
