use Rattle.std.specs.Io.KnownBytes.{Keeps}
use Rattle.desk_session.specs.ShortLines.{short_remaining}
use Rattle.desk_session.proofs.short_lines.ShortLinesRead.read.Given as goal

-- nothing is passed on of the bytes so far
abbrev pub invariant-reads : goal.invariant-reads
invariant-reads g l = Keeps (short_remaining g.R.Read.remaining l.fn.self) (short_remaining g.R.Read.remaining l.self)
