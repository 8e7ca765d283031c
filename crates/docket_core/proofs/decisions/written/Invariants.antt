use Rattle.std.proofs.Common.{◌≡◌, take, filter_map}
use Rattle.docket_rows.specs.Words.{parts_read}
use Rattle.docket_core.specs.Inside.Written.{written_into}
use Rattle.docket_core.proofs.decisions.written.Given as goal

-- what is written on the reads so far
abbrev pub invariant-loop-read : goal.invariant-loop-read
invariant-loop-read l = l.writes.items ≡ filter_map (written_into (parts_read l.rules l.reads) l.command) (take l.read-index l.reads)
