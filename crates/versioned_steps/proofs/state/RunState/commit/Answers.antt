use Rattle.std.proofs.Common.{◌≡◌, Some, slice_get, slice_set, refl, sym, subst}
use Rattle.std.proofs.lemmas.Option.{slice_get_read}
use Rattle.versioned_steps.specs.World.{commit_move, hand_of}
use Rattle.versioned_steps.specs.declared.step.Step.TheVariants.{Commit}
use Rattle.versioned_steps.specs.Moves.{IsSound}
use Rattle.versioned_steps.proofs.WorldLemmas.{step_of_moves, step_of_nobody, past_end, moves_grow, sound_after, sound_own}
use Rattle.versioned_steps.proofs.state.RunState.commit.Goals as goal

pub invariant_of-self-2 : goal.invariant_of-self-2
invariant_of-self-2 g c =
    let r = g.P.Parted.rules c.self.inside.store.owner in
    let h = c.self.inside.history.items in
    let drafts = c.self.inside.drafts in
    let at : slice_get drafts.items c.args.clerk ≡ Some c.in-Some.place.now =
    slice_get_read drafts.items drafts.len c.args.clerk c.in-Some.place.now drafts.ok.0 (c.in-Some.ensures.variant.0 refl) c.in-Some.ensures.value in
    let before = hand_of c.in-Some.place.now in
    let Sound : g.row.P.Denot → Type 0 = λ owner.
    IsSound (g.P.Parted.rules owner) c.commit.new.history.items c.commit.new.store (slice_set drafts.items c.args.clerk c.commit.new.place) in
    subst Sound (sym c.commit.ensures.owner) (sound_after r h c.commit.new.history.items c.self.inside.store c.commit.new.store drafts.items c.args.clerk c.commit.new.place
    (moves_grow h c.commit.new.history.items (commit_move r h c.args.clerk before) before c.commit.result (hand_of c.commit.new.place) c.commit.ensures.moves)
    c.commit.ensures.replays c.commit.ensures.reads (c.commit.ensures.own (sound_own r h c.self.inside.store drafts.items c.args.clerk c.in-Some.place.now at c.self.invariant)) c.self.invariant)

pub returns-clause-step : goal.returns-clause-step
returns-clause-step g c =
    let r = g.P.Parted.rules c.self.inside.store.owner in
    let h = c.self.inside.history.items in
    let drafts = c.self.inside.drafts in
    let at : slice_get drafts.items c.args.clerk ≡ Some c.in-Some.place.now =
    slice_get_read drafts.items drafts.len c.args.clerk c.in-Some.place.now drafts.ok.0 (c.in-Some.ensures.variant.0 refl) c.in-Some.ensures.value in
    rw (← c.self.view_is) (step_of_moves r h c.commit.new.history.items drafts.items (Commit c.args.clerk) c.in-Some.place.now c.commit.new.place c.commit.result at
    c.commit.ensures.moves)

pub returns-in_default-clause-step : goal.returns-in_default-clause-step
returns-in_default-clause-step g c =
    let drafts = c.self.inside.drafts in
    rw (← c.self.view_is) (step_of_nobody (g.P.Parted.rules c.self.inside.store.owner) c.self.inside.history.items drafts.items (Commit c.args.clerk)
    (past_end drafts.items drafts.len c.args.clerk drafts.ok.0 c.in_default.ensures.variant.1))
