use Rattle.std.proofs.Common.{◌≡◌, drop}
use Rattle.desk_numbers.specs.Said.{with_all}
use Rattle.desk_numbers.proofs.said.set_all.Given as goal

-- the others are set yet
abbrev pub invariant-said : goal.invariant-said
invariant-said l = with_all l.kept (drop l.one-index l.said) ≡ with_all l.initial.kept l.said
