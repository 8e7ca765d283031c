use Rattle.std.proofs.Common.{length}
use Rattle.desk_program.proofs.fault_words.+push_marks.Given as goal

abbrev pub decreases-push_marks : goal.decreases-push_marks
decreases-push_marks a = length a.columns.now
