use Rattle.std.proofs.Common.{length}
use Rattle.office_texts.proofs.sheets.motions.+push_panel.Given as goal

abbrev pub decreases-push_panel : goal.decreases-push_panel
decreases-push_panel l = length l.panel.now
