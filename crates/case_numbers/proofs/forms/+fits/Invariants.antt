use Rattle.std.proofs.Common.{length}
use Rattle.case_numbers.proofs.forms.+fits.Given as goal

abbrev pub decreases-fits : goal.decreases-fits
decreases-fits l = length l.form.now
