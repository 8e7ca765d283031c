use Rattle.std.proofs.Common.{List, ℕ, subst}
use Rattle.std.specs.Prelude.{OnOk}
use Rattle.desk_journal.specs.Disks.{IsDurable}
use Rattle.desk_journal.proofs.latch.cut_behind.Goals as goal
use Rattle.desk_journal.proofs.DiskLemmas.{crash_cut, cut_made}

pub returns-in-Ok-clause-durable : goal.returns-in-Ok-clause-durable
returns-in-Ok-clause-durable g c = λ front tail is was.
    subst (λ (file : List ℕ). OnOk c.sync.result (IsDurable g.D.Disk file c.sync.new.disk))
    (cut_made front tail c.args.at (g.D.Disk.seen c.args.disk.now) (g.D.Disk.seen c.set_len.new.self) is was.read c.set_len.ensures.others c.in-Ok.ensures.len)
    c.sync.ensures.durable

pub returns-in-Ok-clause-crash : goal.returns-in-Ok-clause-crash
returns-in-Ok-clause-crash g c = λ front tail is was x left.
    crash_cut front tail c.args.at (g.D.Disk.may_leave c.args.disk.now) (g.D.Disk.may_leave c.set_len.new.self) is was.only c.set_len.ensures.crash x (c.sync.ensures.crash x left)

pub returns-in-Err-clause-crash : goal.returns-in-Err-clause-crash
returns-in-Err-clause-crash g c = λ front tail is was x left.
    crash_cut front tail c.args.at (g.D.Disk.may_leave c.args.disk.now) (g.D.Disk.may_leave c.set_len.new.self) is was.only c.set_len.ensures.crash x left
