use Rattle.std.proofs.Common.{◌≡◌, drop}
use Rattle.desk_numbers.specs.Subjects.{deadline_number, found_among, is_called_deadline}
use Rattle.desk_numbers.proofs.SubjectLemmas.{found_after, numbers_of}
use Rattle.desk_numbers.proofs.subjects.deadline_called.Given as goal

-- what is found with those that are left
abbrev pub invariant-list : goal.invariant-list
invariant-list l = found_after l.found (numbers_of deadline_number (is_called_deadline l.called l.case l.label) (drop l.deadline-index l.deadlines)) ≡ found_among (numbers_of deadline_number (is_called_deadline l.called l.case l.label) l.deadlines)
