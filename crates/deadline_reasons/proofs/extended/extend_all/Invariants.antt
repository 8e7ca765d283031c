use Rattle.std.proofs.Common.{drop}
use Rattle.deadline_reasons.specs.Inside.Leading.{LeadsOn, with_end}
use Rattle.deadline_reasons.proofs.extended.extend_all.Given as goal

-- the extensions so far are passed
abbrev pub invariant-loop-grant : goal.invariant-loop-grant
invariant-loop-grant l = LeadsOn l.days l.clock l.row l.fn.reasons.items l.reasons.items (with_end l.fn.end l.row.grants) (with_end l.extended (drop l.grant-index l.grant-items))
