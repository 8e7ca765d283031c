use Rattle.std.proofs.Common.{◌≡◌, ◌++◌, drop}
use Rattle.std.specs.List.{flat_map}
use Rattle.desk_program.specs.LogLast.{bytes_in}
use Rattle.desk_program.proofs.log_last.joined.Given as goal

-- the texts so far, and those that are left, are all
abbrev pub invariant-loop-text : goal.invariant-loop-text
invariant-loop-text l = l.whole.items ++ flat_map bytes_in (drop l.text-index l.texts) ≡ flat_map bytes_in l.texts
