use Rattle.std.proofs.Common.{length}
use Rattle.court_file_text.proofs.period_names.+text_named.Given as goal

abbrev pub decreases-text_named : goal.decreases-text_named
decreases-text_named l = length l.texts.now
