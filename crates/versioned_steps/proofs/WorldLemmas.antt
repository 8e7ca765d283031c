-- From what one clerk's call does to a step of the world, and from steps to a run.
use Rattle.std.proofs.Common.{◌≡◌, ℕ, zero, suc, ◌⊎◌, inl, inr, true, false, nat_lt, ◌<◌, Option, Some, None, IfSome, option_map, List, [], ◌∷◌, ◌++◌, length, map, replicate, slice_get, slice_set, All, refl, ap, sym, ◌∙◌, subst, arith}
use Rattle.std.proofs.lemmas.List.{append-nil, map-set}
use Rattle.std.proofs.lemmas.List.Elements.{All-head, All-tail, All-set, All-weaker}
use Rattle.std.proofs.lemmas.Option.{slice_get-map, slice_get_past, none-some, same_Some}
use borrow.Author.Tests.{ltb-true, ltb-false, clash}
use mathlib.Core.List.{IsPrefix}
use Rattle.versioned_steps.specs.Rules.{Rules}
use Rattle.versioned_steps.specs.Drafts.{DraftView, IsDraftOf, AreOwn}
use Rattle.versioned_steps.specs.World.{Hand, World, Move, IsStep, IsStepOf, IsRun, clerk_of, move_of, hand_of, world_of}
use Rattle.versioned_steps.specs.Stores.{StoreView, Replays}
use Rattle.versioned_steps.specs.Moves.{Moves, IsSound}
use Rattle.versioned_steps.specs.declared.entry.Entry.{Entry}
use Rattle.versioned_steps.specs.declared.step.Step.{Step}
use Rattle.versioned_steps.specs.declared.step.Outcome.{Outcome}
use Rattle.versioned_steps.specs.declared.step.Outcome.TheVariants.{NoClerk}
use Rattle.versioned_steps.proofs.PreparedLemmas.{draft_longer}

-- a list whose element at k is this stays as it is when this is put there
pub set_same : {X : Type 0} (xs : List X) (k : ℕ) (x : X) → slice_get xs k ≡ Some x → slice_set xs k x ≡ xs
set_same [] k x at = refl
set_same (y ∷ ys) zero x at = ap (λ z. z ∷ ys) (sym (same_Some y x at))
set_same (y ∷ ys) (suc k) x at = ap (λ l. y ∷ l) (set_same ys k x at)

-- what a list has at a place once one element was exchanged: the new one, or what was there before
pub get_set : {X : Type 0} (xs : List X) (i : ℕ) (x : X) (j : ℕ) (y : X) → slice_get (slice_set xs i x) j ≡ Some y → ((j ≡ i) × (x ≡ y)) ⊎ (slice_get xs j ≡ Some y)
get_set [] i x j y at = inr at
get_set (z ∷ zs) zero x zero y at = inl (refl, same_Some x y at)
get_set (z ∷ zs) zero x (suc j) y at = inr at
get_set (z ∷ zs) (suc i) x zero y at = inr at
get_set (z ∷ zs) (suc i) x (suc j) y at =
    elim (get_set zs i x j y at) as (λ _. ((suc j ≡ suc i) × (x ≡ y)) ⊎ (slice_get zs j ≡ Some y)) [
      | inl new ↦ inl (ap suc new.0, new.1)
      | inr old ↦ inr old
    ]

-- what holds of all holds of the element at a place
all_at : {X : Type 0} (P : X → Type 0) (xs : List X) (i : ℕ) (x : X) → slice_get xs i ≡ Some x → All P xs → P x
all_at P [] i x at all = absurd (none-some x at)
all_at P (y ∷ ys) zero x at all = subst P (same_Some y x at) (All-head P y ys all)
all_at P (y ∷ ys) (suc i) x at all = all_at P ys i x at (All-tail P y ys all)

-- what isn't below the length is past the end
pub past_end : {X : Type 0} (xs : List X) (n i : ℕ) → n ≡ length xs → (i < n → false ≡ true) → slice_get xs i ≡ None
past_end xs n i len none =
    (elim (nat_lt i n) as (λ b. nat_lt i n ≡ b → slice_get xs i ≡ None) [
      | true ↦ λ test. absurd (clash (none (ltb-true i n test)))
      | false ↦ λ test. slice_get_past xs i (omega (arith, ltb-false i n test))
    ]) refl

-- where nobody has any, no clerk has one
pub idle_own : {X : Type 0} (n clerk : ℕ) (x : X) → slice_get (replicate n None) clerk ≡ Some (Some x) → ⊥
idle_own zero clerk x at = none-some (Some x) at
idle_own (suc n) zero x at = none-some x (same_Some None (Some x) at)
idle_own (suc n) (suc clerk) x at = idle_own n clerk x at

module _ {Part Value Command Answer : Type 0} where
  -- a move that looks at no history, beside any history
  pub moves_beside : (h : List (Entry Command Answer)) (move : Move Part Value Command Answer) (before : Option (Hand Part Value Command)) (outcome : Outcome Part Answer) (hand : Option (Hand Part Value Command))
      → Moves move before [] outcome hand [] → Moves move before h outcome hand h
  moves_beside h move before outcome hand (inl whole) =
      inl (record { outcome_is = whole.outcome_is; hand_is = whole.hand_is; history_is = sym (append-nil h) ∙ ap (λ l. h ++ l) whole.history_is })
  moves_beside h move before outcome hand (inr none) =
      inr (record { takes_memory = none.takes_memory; outcome_is = none.outcome_is; hand_is = none.hand_is; history_is = refl })

  -- the history only grows
  pub moves_grow : (h k : List (Entry Command Answer)) (move : Move Part Value Command Answer) (before : Option (Hand Part Value Command)) (outcome : Outcome Part Answer) (hand : Option (Hand Part Value Command))
      → Moves move before h outcome hand k → IsPrefix h k
  moves_grow h k move before outcome hand (inl whole) = (move.entries, sym whole.history_is)
  moves_grow h k move before outcome hand (inr none) = ([], append-nil h ∙ sym none.history_is)

module _ {Part Value Command Answer : Type 0} where
  -- each draft stays its clerk's where one of them is exchanged for another of that clerk
  own_after : (drafts : List (Option (DraftView Part Value Command Answer))) (clerk : ℕ) (after : Option (DraftView Part Value Command Answer))
      → IfSome after (λ d. d.clerk ≡ clerk) → AreOwn drafts → AreOwn (slice_set drafts clerk after)
  own_after drafts clerk after new own = λ other d at.
      elim (get_set drafts clerk after other (Some d) at) as (λ _. d.clerk ≡ other) [
        | inl this ↦ let P : Option (DraftView Part Value Command Answer) → Type 0 = λ o. IfSome o (λ x. x.clerk ≡ clerk) in subst P this.1 new ∙ sym this.0
        | inr old ↦ own other d old
      ]

module _ {Part Value Command Answer : Type 0} (r : Rules Part Value Command Answer) where
  -- a clerk's move is a step of the world
  pub step_of_moves : (h k : List (Entry Command Answer)) (drafts : List (Option (DraftView Part Value Command Answer))) (step : Step Command) (before after : Option (DraftView Part Value Command Answer)) (outcome : Outcome Part Answer)
      → slice_get drafts (clerk_of step) ≡ Some before → Moves (move_of r h step (hand_of before)) (hand_of before) h outcome (hand_of after) k
      → IsStep r (world_of h drafts) step outcome (world_of k (slice_set drafts (clerk_of step) after))
  step_of_moves h k drafts step before after outcome at moves =
      let hand : Some (hand_of before) ≡ slice_get (map hand_of drafts) (clerk_of step) =
      sym (slice_get-map hand_of drafts (clerk_of step) ∙ ap (option_map hand_of) at) in
      let P : Option (Option (Hand Part Value Command)) → Type 0 = λ o. IsStepOf r (world_of h drafts) step o outcome (world_of k (slice_set drafts (clerk_of step) after)) in
      let hands : map hand_of (slice_set drafts (clerk_of step) after) ≡ slice_set (map hand_of drafts) (clerk_of step) (hand_of after) = map-set hand_of drafts (clerk_of step) after in
      subst P hand (elim moves [
        | inl whole ↦ inl (record {
          outcome_is = whole.outcome_is;
          world_is =
              ap (λ l. record { history = k; hands = l }) hands
              ∙ ap (λ l. record { history = l; hands = slice_set (map hand_of drafts) (clerk_of step) (hand_of after) }) whole.history_is
              ∙ ap (λ o. record { history = h ++ (move_of r h step (hand_of before)).entries; hands = slice_set (map hand_of drafts) (clerk_of step) o }) whole.hand_is;
        })
        | inr none ↦ inr (record {
          takes_memory = none.takes_memory;
          outcome_is = none.outcome_is;
          unchanged =
              ap (λ l. record { history = k; hands = l })
              (hands ∙ ap (slice_set (map hand_of drafts) (clerk_of step)) none.hand_is ∙ set_same (map hand_of drafts) (clerk_of step) (hand_of before) (sym hand))
              ∙ ap (λ l. record { history = l; hands = map hand_of drafts }) none.history_is;
        })
      ])

  -- a step of no clerk
  pub step_of_nobody : (h : List (Entry Command Answer)) (drafts : List (Option (DraftView Part Value Command Answer))) (step : Step Command)
      → slice_get drafts (clerk_of step) ≡ None → IsStep r (world_of h drafts) step NoClerk (world_of h drafts)
  step_of_nobody h drafts step at =
      let none : None ≡ slice_get (map hand_of drafts) (clerk_of step) = sym (slice_get-map hand_of drafts (clerk_of step) ∙ ap (option_map hand_of) at) in
      let P : Option (Option (Hand Part Value Command)) → Type 0 = λ o. IsStepOf r (world_of h drafts) step o NoClerk (world_of h drafts) in
      subst P none (refl, refl)

  -- drafts of a history are drafts of each longer one
  some_draft_longer : (h k : List (Entry Command Answer)) → IsPrefix h k → (d : Option (DraftView Part Value Command Answer)) → IfSome d (IsDraftOf r h) → IfSome d (IsDraftOf r k)
  some_draft_longer h k begins None was = tt
  some_draft_longer h k begins (Some d) was = draft_longer r h k begins d was

  -- and stay so where one of them is exchanged
  pub drafts_after : (h k : List (Entry Command Answer)) → IsPrefix h k → (drafts : List (Option (DraftView Part Value Command Answer))) (clerk : ℕ) (after : Option (DraftView Part Value Command Answer))
      → IfSome after (IsDraftOf r k) → All (λ d. IfSome d (IsDraftOf r h)) drafts → All (λ d. IfSome d (IsDraftOf r k)) (slice_set drafts clerk after)
  drafts_after h k begins drafts clerk after new were =
      All-set (λ d. IfSome d (IsDraftOf r k)) drafts clerk after new
      (All-weaker (λ d. IfSome d (IsDraftOf r h)) (λ d. IfSome d (IsDraftOf r k)) (some_draft_longer h k begins) drafts were)

  -- a sound state stays sound where one clerk's draft is exchanged, and the history has grown with its store
  pub sound_after : {Owner : Type 0} (h k : List (Entry Command Answer)) (s t : StoreView Owner Part Value) (drafts : List (Option (DraftView Part Value Command Answer))) (clerk : ℕ) (after : Option (DraftView Part Value Command Answer))
      → IsPrefix h k → Replays r k t → IfSome after (IsDraftOf r k) → IfSome after (λ d. d.clerk ≡ clerk) → IsSound r h s drafts → IsSound r k t (slice_set drafts clerk after)
  sound_after h k s t drafts clerk after begins replays new own sound =
      record { replays = replays; drafts_read = drafts_after h k begins drafts clerk after new sound.drafts_read; drafts_own = own_after drafts clerk after own sound.drafts_own }

  -- what one clerk has in hand in a sound state was read from the history, by that clerk
  pub sound_read : {Owner : Type 0} (h : List (Entry Command Answer)) (s : StoreView Owner Part Value) (drafts : List (Option (DraftView Part Value Command Answer))) (clerk : ℕ) (draft : Option (DraftView Part Value Command Answer))
      → slice_get drafts clerk ≡ Some draft → IsSound r h s drafts → IfSome draft (IsDraftOf r h)
  sound_read h s drafts clerk draft at sound = all_at (λ d. IfSome d (IsDraftOf r h)) drafts clerk draft at sound.drafts_read

  pub sound_own : {Owner : Type 0} (h : List (Entry Command Answer)) (s : StoreView Owner Part Value) (drafts : List (Option (DraftView Part Value Command Answer))) (clerk : ℕ) (draft : Option (DraftView Part Value Command Answer))
      → slice_get drafts clerk ≡ Some draft → IsSound r h s drafts → IfSome draft (λ d. d.clerk ≡ clerk)
  sound_own h s drafts clerk None at sound = tt
  sound_own h s drafts clerk (Some d) at sound = sound.drafts_own clerk d at

  -- and stays so where a move of that clerk looks at no history, and leaves it
  pub sound_beside : {Owner : Type 0} (h : List (Entry Command Answer)) (s : StoreView Owner Part Value) (drafts : List (Option (DraftView Part Value Command Answer))) (clerk : ℕ) (before after : Option (DraftView Part Value Command Answer))
      → slice_get drafts clerk ≡ Some before → (IfSome before (IsDraftOf r h) → IfSome after (IsDraftOf r h)) → (IfSome before (λ d. d.clerk ≡ clerk) → IfSome after (λ d. d.clerk ≡ clerk))
      → IsSound r h s drafts → IsSound r h s (slice_set drafts clerk after)
  sound_beside h s drafts clerk before after at reads own sound =
      sound_after h h s s drafts clerk after ([], append-nil h) sound.replays (reads (sound_read h s drafts clerk before at sound)) (own (sound_own h s drafts clerk before at sound)) sound

  -- a run goes on by one step
  pub run_push : (w : World Part Value Command Answer) (steps : List (Step Command)) (outcomes : List (Outcome Part Answer)) (mid : World Part Value Command Answer) (step : Step Command) (outcome : Outcome Part Answer) (after : World Part Value Command Answer)
      → IsRun r w steps outcomes mid → IsStep r mid step outcome after → IsRun r w (steps ++ step ∷ []) (outcomes ++ outcome ∷ []) after
  run_push w [] [] mid step outcome after run next =
      let P : World Part Value Command Answer → Type 0 = λ x. IsStep r x step outcome after in (after, subst P run next, refl)
  run_push w (s ∷ ss) (o ∷ os) mid step outcome after run next = (run.0, run.1, run_push run.0 ss os mid step outcome after run.2 next)
  run_push w [] (o ∷ os) mid step outcome after run next = absurd run
  run_push w (s ∷ ss) [] mid step outcome after run next = absurd run

-- where nobody has a draft, nobody has a command in hand
pub idle_hands : (Part Value Command Answer : Type 0) (n : ℕ) → map (hand_of {Part = Part} {Value = Value} {Command = Command} {Answer = Answer}) (replicate n None) ≡ replicate n None
idle_hands Part Value Command Answer zero = refl
idle_hands Part Value Command Answer (suc n) = ap (λ l. None ∷ l) (idle_hands Part Value Command Answer n)
