use Rattle.std.proofs.Common.{◌≡◌, false}
use Rattle.program_streams.specs.Words.{has_failed}
use Rattle.docket.proofs.enter.kept_from.Given as goal

-- all that was to be written so far was written
abbrev pub invariant-turns : goal.invariant-turns
invariant-turns g l = has_failed l.writer ≡ false
