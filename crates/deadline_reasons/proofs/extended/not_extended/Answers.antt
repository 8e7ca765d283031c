use Rattle.std.proofs.Common.{◌∷◌}
use Rattle.deadline_reasons.specs.Inside.Leading.{with_end}
use Rattle.deadline_reasons.specs.Standing.{Nowhere}
use Rattle.deadline_reasons.proofs.ExtensionLemmas.{nothing_follows}
use Rattle.deadline_reasons.proofs.extended.not_extended.Goals as goal

pub returns : goal.returns
returns c = λ days clock row end grants leads start.
    c.in_ok-push.ensures.leads days clock row (with_end end (c.args.grant ∷ grants)) (Nowhere grants) start (nothing_follows days clock row end c.args.grant grants leads)
