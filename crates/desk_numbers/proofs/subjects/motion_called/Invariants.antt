use Rattle.std.proofs.Common.{◌≡◌, drop}
use Rattle.desk_numbers.specs.Subjects.{found_among, is_called_motion, motion_number}
use Rattle.desk_numbers.proofs.SubjectLemmas.{found_after, numbers_of}
use Rattle.desk_numbers.proofs.subjects.motion_called.Given as goal

-- what is found with those that are left
abbrev pub invariant-list : goal.invariant-list
invariant-list l = found_after l.found (numbers_of motion_number (is_called_motion l.called l.case l.label) (drop l.motion-index l.motions)) ≡ found_among (numbers_of motion_number (is_called_motion l.called l.case l.label) l.motions)
