use Rattle.std.proofs.Common.{IsSome}
use Rattle.std.proofs.lemmas.Bool.{false≢true}
use Rattle.docket_laws.proofs.CallerLemmas.{can_enter_outage}
use Rattle.docket_core.proofs.writes.with_outage.Goals as goal

pub unreachable-requires : goal.unreachable-requires
unreachable-requires g c =
    let made : IsSome c.new.result = c.new.ensures.some.1 (can_enter_outage _ _ _ _ c.requires) in
    false≢true (rw c.in-None.is at made)
