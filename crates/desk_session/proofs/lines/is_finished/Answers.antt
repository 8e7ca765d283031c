use Rattle.std.proofs.Common.{refl}
use Rattle.desk_session.proofs.LineLemmas.{finished_if, finished_nil}
use Rattle.desk_session.proofs.lines.is_finished.Goals as goal

pub returns-in-None : goal.returns-in-None
returns-in-None c = (λ yes. finished_nil c.args.input.now c.in-None.ensures.cases, λ none. refl)

pub returns-in-Some : goal.returns-in-Some
returns-in-Some c = finished_if c.args.input.now c.in-Some.field-0-1.now c.in-Some.byte.now c.ends_line.result c.in-Some.ensures.cases.0 c.ends_line.ensures
