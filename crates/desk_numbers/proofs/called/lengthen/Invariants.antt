use Rattle.std.proofs.Common.{◌≡◌, ◌-◌, length}
use Rattle.desk_numbers.specs.Called.{lengthened}
use Rattle.desk_numbers.proofs.called.lengthen.Given as goal

-- the lists come to the same
abbrev pub invariant-slots : goal.invariant-slots
invariant-slots l = lengthened l.cases.items l.count ≡ lengthened l.fn.cases.items l.count

abbrev pub decreases-slots : goal.decreases-slots
decreases-slots l = l.count - length l.cases.items
