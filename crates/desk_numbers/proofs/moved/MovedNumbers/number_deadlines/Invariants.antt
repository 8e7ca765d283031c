use Rattle.std.proofs.Common.{◌≡◌, map}
use Rattle.desk_numbers.specs.Numbered.{numbered_deadline}
use Rattle.desk_numbers.proofs.MapLemmas.{changed_up_to}
use Rattle.desk_numbers.proofs.moved.MovedNumbers.number_deadlines.Given as goal

-- the first have their numbers, and the others are as they were
abbrev pub invariant-list : goal.invariant-list
invariant-list l = changed_up_to (numbered_deadline l.self l.case) l.deadlines l.deadline-index ≡ map (numbered_deadline l.self l.case) l.initial.deadlines
