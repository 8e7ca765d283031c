use Rattle.std.proofs.Common.{length}
use Rattle.case_numbers.proofs.forms.+push_picked.Given as goal

abbrev pub decreases-push_picked : goal.decreases-push_picked
decreases-push_picked l = length l.form.now
