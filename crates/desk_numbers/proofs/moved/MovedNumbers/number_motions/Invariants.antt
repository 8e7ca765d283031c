use Rattle.std.proofs.Common.{◌≡◌, map}
use Rattle.desk_numbers.specs.Numbered.{numbered_motion}
use Rattle.desk_numbers.proofs.MapLemmas.{changed_up_to}
use Rattle.desk_numbers.proofs.moved.MovedNumbers.number_motions.Given as goal

-- the first have their numbers, and the others are as they were
abbrev pub invariant-list : goal.invariant-list
invariant-list l = changed_up_to (numbered_motion l.self l.case) l.motions l.motion-index ≡ map (numbered_motion l.self l.case) l.initial.motions
