use Rattle.docket_laws.proofs.CallerLemmas.{can_enter}
use Rattle.docket_decisions.proofs.answers.answer_to_motion.Goals as goal

pub next_motion-requires : goal.next_motion-requires
next_motion-requires g c = can_enter _ _ _ _ c.requires
