use Rattle.std.proofs.Common.{refl}
use Rattle.versioned_steps.proofs.StoreLemmas.{replays_opening}
use Rattle.versioned_steps.proofs.store.Store.new.Goals as goal

pub returns-clause-opening : goal.returns-clause-opening
returns-clause-opening g c = replays_opening (g.P.Parted.rules c.args.parts) _ refl c.new.ensures.items c.new-2.ensures.empty
