use Rattle.std.proofs.Common.{◌+◌, ◌*◌}
use Rattle.program_runs.proofs.parallel.reading.+parts.Given as goal

-- each closure hands fewer readers on
abbrev pub decreases-read_parts : goal.decreases-read_parts
decreases-read_parts g l = 2 * l.readers

abbrev pub decreases-beside : goal.decreases-beside
decreases-beside g l = 2 * l.high + 1

abbrev pub decreases-here : goal.decreases-here
decreases-here g l = 2 * l.low + 1
