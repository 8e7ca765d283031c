use Rattle.std.proofs.Common.{◌≡◌, drop, max}
use Rattle.desk_numbers.specs.Moved.{after_moved}
use Rattle.desk_numbers.proofs.moved.next_after.Given as goal

-- the least number after those so far, and after the others
abbrev pub invariant-list : goal.invariant-list
invariant-list l = max l.next (after_moved (drop l.moved-index l.list) l.case l.counted) ≡ after_moved l.list l.case l.counted
