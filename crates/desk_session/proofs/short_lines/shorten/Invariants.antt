use Rattle.desk_session.proofs.ShortLineLemmas.{ShortensInPlace}
use Rattle.desk_session.proofs.short_lines.shorten.Given as goal

abbrev pub invariant-loop-place : goal.invariant-loop-place
invariant-loop-place l = ShortensInPlace l.fn.count l.fn.bytes l.bytes l.kept l.place l.count
