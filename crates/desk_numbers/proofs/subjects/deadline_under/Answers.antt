use Rattle.desk_numbers.specs.Subjects.{deadline_number, found_among, is_pending_under}
use Rattle.desk_numbers.proofs.SubjectLemmas.{found_past, numbers_of}
use Rattle.desk_numbers.proofs.subjects.deadline_under.Goals as goal

pub returns : goal.returns
returns c =
    let deadlines = c.args.deadlines.now in
    found_past deadline_number (is_pending_under c.args.rule) deadlines c.list.deadline-index c.list.found (found_among (numbers_of deadline_number (is_pending_under c.args.rule) deadlines)) c.list.invariant c.list-test.false
