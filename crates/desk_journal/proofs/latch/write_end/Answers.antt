use Rattle.std.proofs.Common.{length}
use Rattle.desk_journal.proofs.latch.write_end.Goals as goal
use Rattle.desk_journal.proofs.DiskLemmas.{crash_end}

pub returns-in-Ok-clause-crash : goal.returns-in-Ok-clause-crash
returns-in-Ok-clause-crash g c = λ file is was x left.
    crash_end file c.args.end (length c.args.bytes.now) (g.D.Disk.may_leave c.args.disk.now) (g.D.Disk.may_leave c.write_at.new.self) is was.only c.write_at.ensures.crash x (c.sync.ensures.crash x left)

pub returns-in-Err-clause-crash : goal.returns-in-Err-clause-crash
returns-in-Err-clause-crash g c = λ file is was x left.
    crash_end file c.args.end (length c.args.bytes.now) (g.D.Disk.may_leave c.args.disk.now) (g.D.Disk.may_leave c.write_at.new.self) is was.only c.write_at.ensures.crash x left
