use Rattle.desk_numbers.specs.Subjects.{found_among, is_called_motion, motion_number}
use Rattle.desk_numbers.proofs.SubjectLemmas.{found_past, numbers_of}
use Rattle.desk_numbers.proofs.subjects.motion_called.Goals as goal

pub returns : goal.returns
returns c =
    let motions = c.args.motions.now in
    found_past motion_number (is_called_motion c.args.called.now c.args.case c.args.label.now) motions c.list.motion-index c.list.found (found_among (numbers_of motion_number (is_called_motion c.args.called.now c.args.case c.args.label.now) motions)) c.list.invariant c.list-test.false
