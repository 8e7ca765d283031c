use Rattle.std.proofs.Common.{length}
use Rattle.court_file_text.proofs.control.+has_control.Given as goal

abbrev pub decreases-has_control : goal.decreases-has_control
decreases-has_control l = length l.text.now
