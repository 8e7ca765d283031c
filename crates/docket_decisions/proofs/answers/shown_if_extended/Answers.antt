use Rattle.std.proofs.Common.{sym}
use Rattle.docket_laws.proofs.CallerLemmas.{can_extend}
use Rattle.docket_decisions.proofs.answers.shown_if_extended.Goals as goal

pub shown_with-requires : goal.shown_with-requires
shown_with-requires g c = (can_extend _ _ _ _ _ c.in-Some.row.now c.requires (sym c.in-Some.ensures)).ranged
