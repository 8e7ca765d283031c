use Rattle.std.proofs.Common.{◌≡◌, fold, take}
use Rattle.rule_periods.specs.Base.{base_of}
use Rattle.rule_periods.specs.Extended.{granted_if_it_fits}
use Rattle.rule_periods.specs.Period.{is_in_hours}
use Rattle.rule_periods.proofs.extended.extended.Given as goal

-- the end so far is that of the extensions so far
abbrev pub invariant-loop-grant : goal.invariant-loop-grant
invariant-loop-grant l = l.end ≡ fold (granted_if_it_fits l.days l.clock (is_in_hours l.row.period)) (base_of l.days l.clock l.row) (take l.grant-index l.grant-items)
