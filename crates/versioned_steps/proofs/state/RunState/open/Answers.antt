use Rattle.std.proofs.Common.{◌≡◌, ◌∙◌, None, IfSome, ap, sym, subst, arith, []}
use Rattle.std.proofs.lemmas.List.Elements.{All-replicate}
use Rattle.versioned_steps.specs.Drafts.{IsDraftOf}
use Rattle.versioned_steps.specs.World.{World, opening_world}
use Rattle.versioned_steps.specs.Moves.{IsSound}
use Rattle.versioned_steps.proofs.WorldLemmas.{idle_hands, idle_own}
use Rattle.versioned_steps.proofs.state.RunState.open.Goals as goal

pub invariant_of-result : goal.invariant_of-result
invariant_of-result g c =
    let Sound : g.row.P.Denot → Type 0 = λ owner. IsSound (g.P.Parted.rules owner) c.new-2.result.items c.new.result c.loop-clerk.drafts.items in
    subst Sound (sym c.new.ensures.owner) (rw (c.new-2.ensures.items, c.loop-clerk.invariant.idle) (record {
      replays = c.new.ensures.opening;
      drafts_read = All-replicate (λ d. IfSome d (IsDraftOf (g.P.Parted.rules c.args.parts) [])) c.loop-clerk._clerk None tt;
      drafts_own = λ clerk d at. absurd (idle_own c.loop-clerk._clerk clerk d at);
    }))

pub returns : goal.returns
returns g c =
    let all : c.loop-clerk._clerk ≡ c.args.clerks = omega arith in
    let W : Type 0 = World g.row.P-Part.Denot g.row.P-Value.Denot g.row.P-Command.Denot g.row.P-Answer.Denot in
    rw (c.new.ensures.owner, c.new-2.ensures.items, c.loop-clerk.invariant.idle) (ap (λ (w : W). record { owner = c.args.parts; world = w })
    (ap (λ hands. record { history = []; hands = hands }) (idle_hands g.row.P-Part.Denot g.row.P-Value.Denot g.row.P-Command.Denot g.row.P-Answer.Denot c.loop-clerk._clerk)
    ∙ ap (λ n. opening_world n) all))
