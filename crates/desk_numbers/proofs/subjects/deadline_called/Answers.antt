use Rattle.desk_numbers.specs.Subjects.{deadline_number, found_among, is_called_deadline}
use Rattle.desk_numbers.proofs.SubjectLemmas.{found_past, numbers_of}
use Rattle.desk_numbers.proofs.subjects.deadline_called.Goals as goal

pub returns : goal.returns
returns c =
    let deadlines = c.args.deadlines.now in
    found_past deadline_number (is_called_deadline c.args.called.now c.args.case c.args.label.now) deadlines c.list.deadline-index c.list.found (found_among (numbers_of deadline_number (is_called_deadline c.args.called.now c.args.case c.args.label.now) deadlines)) c.list.invariant c.list-test.false
