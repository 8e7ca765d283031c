use Rattle.std.proofs.Common.{◌≡◌, Some, slice_get, refl}
use Rattle.std.proofs.lemmas.Option.{slice_get_read}
use Rattle.versioned_steps.specs.World.{hand_of}
use Rattle.versioned_steps.specs.declared.step.Step.TheVariants.{Discard}
use Rattle.versioned_steps.proofs.WorldLemmas.{step_of_moves, step_of_nobody, past_end, moves_beside, sound_beside}
use Rattle.versioned_steps.proofs.state.RunState.discard.Goals as goal

pub invariant_of-self-2 : goal.invariant_of-self-2
invariant_of-self-2 g c =
    let r = g.P.Parted.rules c.self.inside.store.owner in
    let h = c.self.inside.history.items in
    let drafts = c.self.inside.drafts in
    let at : slice_get drafts.items c.args.clerk ≡ Some c.in-Some.place.now =
    slice_get_read drafts.items drafts.len c.args.clerk c.in-Some.place.now drafts.ok.0 (c.in-Some.ensures.variant.0 refl) c.in-Some.ensures.value in
    sound_beside r h c.self.inside.store drafts.items c.args.clerk c.in-Some.place.now c.discard.new.place at (λ _. rw c.discard.ensures.none tt) (λ _. rw c.discard.ensures.none tt) c.self.invariant

pub returns-clause-step : goal.returns-clause-step
returns-clause-step g c =
    let r = g.P.Parted.rules c.self.inside.store.owner in
    let h = c.self.inside.history.items in
    let drafts = c.self.inside.drafts in
    let at : slice_get drafts.items c.args.clerk ≡ Some c.in-Some.place.now =
    slice_get_read drafts.items drafts.len c.args.clerk c.in-Some.place.now drafts.ok.0 (c.in-Some.ensures.variant.0 refl) c.in-Some.ensures.value in
    rw (← c.self.view_is) (step_of_moves r h h drafts.items (Discard c.args.clerk) c.in-Some.place.now c.discard.new.place c.discard.result at
    (moves_beside h _ (hand_of c.in-Some.place.now) c.discard.result (hand_of c.discard.new.place) c.discard.ensures.moves))

pub returns-in_default-clause-step : goal.returns-in_default-clause-step
returns-in_default-clause-step g c =
    let drafts = c.self.inside.drafts in
    rw (← c.self.view_is) (step_of_nobody (g.P.Parted.rules c.self.inside.store.owner) c.self.inside.history.items drafts.items (Discard c.args.clerk)
    (past_end drafts.items drafts.len c.args.clerk drafts.ok.0 c.in_default.ensures.variant.1))
