use Rattle.std.proofs.Common.{◌≡◌, ◌+◌, ◌∙◌, ◌++◌, ◌∷◌, [], true, length, take, sym, subst, ap, arith}
use Rattle.std.proofs.lemmas.List.{take_more, length_push}
use Rattle.versioned_steps.specs.History.{is_legal}
use Rattle.versioned_steps.specs.World.{World, IsStep, IsRun, opening_world}
use Rattle.versioned_steps.specs.Moves.{IsSound}
use Rattle.versioned_steps.proofs.WorldLemmas.{run_push}
use Rattle.versioned_steps.proofs.HistoryLemmas.{legal_empty}
use Rattle.versioned_steps.proofs.RunLemmas.{run_legal}
use Rattle.versioned_steps.proofs.run.run_steps_in.Goals as goal

pub loop-step-preserved : goal.loop-step-preserved
loop-step-preserved g c =
    let r = g.P.Parted.rules c.args.parts in
    let own : c.loop-step.state.owner ≡ c.args.parts = c.loop-step.invariant.owner in
    let Made : g.row.P.Denot → Type 0 = λ o. IsStep (g.P.Parted.rules o) c.loop-step.state.world c.step-item.result c.make-outcome.result c.make-outcome.new.self.world in
    let pushed : IsRun r (opening_world c.args.clerks) (take c.loop-step.step-index c.args.steps.now ++ c.step-item.result ∷ []) (c.loop-step.outcomes.items ++ c.make-outcome.result ∷ []) c.make-outcome.new.self.world =
    run_push r (opening_world c.args.clerks) (take c.loop-step.step-index c.args.steps.now) c.loop-step.outcomes.items c.loop-step.state.world c.step-item.result c.make-outcome.result c.make-outcome.new.self.world
    c.loop-step.invariant.run (subst Made own c.make-outcome.ensures.step) in
    let steps : take (c.loop-step.step-index + 1) c.args.steps.now ≡ take c.loop-step.step-index c.args.steps.now ++ c.step-item.result ∷ [] =
    take_more c.args.steps.now c.loop-step.step-index c.step-item.result c.loop-step-test.true
    ∙ ap (λ step. take c.loop-step.step-index c.args.steps.now ++ step ∷ []) (sym c.step-item.is) in
    record {
      owner = c.make-outcome.ensures.owner ∙ own;
      run = rw (steps, c.push_reserved.ensures.items) pushed;
      count = ap length c.push_reserved.ensures.items ∙ length_push c.loop-step.outcomes.items c.make-outcome.result ∙ ap (λ n. n + 1) c.loop-step.invariant.count;
      room = omega arith;
    }

pub returns-clause-drafts : goal.returns-clause-drafts
returns-clause-drafts g c =
    let Sound : g.row.P.Denot → Type 0 = λ owner. IsSound (g.P.Parted.rules owner) c.close.result.history.items c.close.result.store c.close.result.drafts.items in
    (subst Sound c.loop-step.invariant.owner c.close.ensures.sound).drafts_read

pub returns-clause-legal : goal.returns-clause-legal
returns-clause-legal g c =
    let r = g.P.Parted.rules c.args.parts in
    let legal : is_legal r c.loop-step.state.world.history ≡ true =
    run_legal r (g.met.P.Parted.lawful c.args.parts) (opening_world c.args.clerks) _ _ c.loop-step.state.world (legal_empty r) c.loop-step.invariant.run in
    ap (λ (w : World g.row.P-Part.Denot g.row.P-Value.Denot g.row.P-Command.Denot g.row.P-Answer.Denot). is_legal r w.history) c.close.ensures.world ∙ legal
