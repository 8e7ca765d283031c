-- The steps that finished a command are the entries of the history.
use Rattle.std.proofs.Common.{◌≡◌, ℕ, ◌+◌, ◌==◌, if◌then◌else◌, ◌⊎◌, inl, inr, true, false, Option, Some, None, option_map, IfSome, List, [], ◌∷◌, ◌++◌, append_assoc, length, replicate, slice_get, slice_set, refl, ap, sym, ◌∙◌, subst, arith}
use Rattle.std.proofs.lemmas.List.{append-nil}
use Rattle.std.proofs.lemmas.Bool.{eqb-true, eq-eqb}
use Rattle.std.proofs.lemmas.Option.{none-some, same_Some}
use borrow.Author.Tests.{clash}
use Rattle.versioned_steps.specs.Rules.{Rules}
use Rattle.versioned_steps.specs.History.{answer_on, value_of, version_of}
use Rattle.versioned_steps.specs.Finished.{begun_by, begun_then, entered, finish_of, finishes}
use Rattle.versioned_steps.specs.Reads.{copies_of, first_stale}
use Rattle.versioned_steps.specs.World.{Hand, World, Move, IsStepOf, IsRun, clerk_of, commit_read, move_of, moved, opening_world, read_next, validated}
use Rattle.versioned_steps.specs.declared.entry.Entry.{Entry}
use Rattle.versioned_steps.specs.declared.stale.Stale.{Stale}
use Rattle.versioned_steps.specs.declared.step.Step.{Step}
use Rattle.versioned_steps.specs.declared.step.Step.TheVariants.{Begin, Read, Commit, Discard}
use Rattle.versioned_steps.specs.declared.step.Outcome.{Outcome}
use Rattle.versioned_steps.specs.declared.step.Outcome.TheVariants.{NoClerk, NoMemory}
use Rattle.versioned_steps.proofs.WorldLemmas.{get_set, idle_own}

-- one more entry
entered_push : {Command Answer : Type 0} (place n : ℕ) (h : List (Entry Command Answer)) (e : Entry Command Answer) → n ≡ place + length h
    → entered place (h ++ e ∷ []) ≡ entered place h ++ record { clerk = e.clerk; command = Some e.command; place = n; answer = e.answer } ∷ []
entered_push place n [] e is =
    let here : place ≡ n = omega (arith, is) in
    ap (λ m. record { clerk = e.clerk; command = Some e.command; place = m; answer = e.answer } ∷ []) here
entered_push place n (x ∷ xs) e is =
    let later : n ≡ place + 1 + length xs = omega (arith, is) in
    ap (λ l. record { clerk = x.clerk; command = Some x.command; place = place; answer = x.answer } ∷ l) (entered_push (place + 1) n xs e later)

module _ {Part Value Command : Type 0} where
  -- what each clerk has in hand is what that clerk began last
  abbrev AreBegun : (ℕ → Option Command) → List (Option (Hand Part Value Command)) → Type 0
  AreBegun begun hands = (clerk : ℕ) (hand : Hand Part Value Command) → slice_get hands clerk ≡ Some (Some hand) → begun clerk ≡ Some hand.command

  -- and stays so where one clerk's hand is exchanged for one of the same command, or emptied
  begun_set : (begun : ℕ → Option Command) (hands : List (Option (Hand Part Value Command))) (clerk : ℕ) (hand : Option (Hand Part Value Command))
      → IfSome hand (λ h. begun clerk ≡ Some h.command) → AreBegun begun hands → AreBegun begun (slice_set hands clerk hand)
  begun_set begun hands clerk hand new were = λ other h at.
      elim (get_set hands clerk hand other (Some h) at) as (λ _. begun other ≡ Some h.command) [
        | inl this ↦ let P : Option (Hand Part Value Command) → Type 0 = λ o. IfSome o (λ x. begun clerk ≡ Some x.command) in ap begun this.0 ∙ subst P this.1 new
        | inr old ↦ were other h old
      ]

  -- and once an idle clerk takes a command up
  begun_more : (begun : ℕ → Option Command) (hands : List (Option (Hand Part Value Command))) (clerk : ℕ) (command : Command)
      → slice_get hands clerk ≡ Some None → AreBegun begun hands → AreBegun (begun_by begun (Begin clerk command)) (slice_set hands clerk (Some (record { command = command; reads = [] })))
  begun_more begun hands clerk command idle were = λ other h at.
      let new : Option (Hand Part Value Command) = Some (record { command = command; reads = [] }) in
      (elim (other == clerk) as (λ b. (other == clerk) ≡ b → (if b then Some command else begun other) ≡ Some h.command) [
        | true ↦ λ test.
            elim (get_set hands clerk new other (Some h) at) as (λ _. Some command ≡ Some h.command) [
              | inl this ↦ ap (option_map (λ (x : Hand Part Value Command). x.command)) this.1
              | inr old ↦ absurd (none-some h (same_Some None (Some h) (sym idle ∙ ap (slice_get hands) (sym (eqb-true other clerk test)) ∙ old)))
            ]
        | false ↦ λ test.
            elim (get_set hands clerk new other (Some h) at) as (λ _. begun other ≡ Some h.command) [
              | inl this ↦ absurd (clash (sym test ∙ eq-eqb other clerk this.0))
              | inr old ↦ were other h old
            ]
      ]) refl

  -- before the first step nobody has a command in hand
  nobody_began : (clerks : ℕ) → AreBegun (λ _. None) (replicate clerks None)
  nobody_began clerks = λ clerk hand at. absurd (idle_own clerks clerk hand at)

module _ {Part Value Command Answer : Type 0} (r : Rules Part Value Command Answer) where
  -- what is said of a step is what it appended, and what the clerks then have in hand
  record IsTold (begun : ℕ → Option Command) (w : World Part Value Command Answer) (step : Step Command) (outcome : Outcome Part Answer) (after : World Part Value Command Answer) : Type 0 where
    entries : entered 1 w.history ++ finish_of begun step outcome ≡ entered 1 after.history
    hands : AreBegun (begun_then begun step outcome) after.hands

  -- a move that appends nothing
  same_entries : (h : List (Entry Command Answer)) → entered 1 h ++ [] ≡ entered 1 (h ++ [])
  same_entries h = append-nil (entered 1 h) ∙ ap (entered 1) (sym (append-nil h))

  abbrev MoveIsTold : (ℕ → Option Command) → World Part Value Command Answer → Step Command → Move Part Value Command Answer → Type 0
  MoveIsTold begun w step move = IsTold begun w step move.outcome (moved w (clerk_of step) move)

  told_read : (begun : ℕ → Option Command) (w : World Part Value Command Answer) (clerk : ℕ) (hand : Hand Part Value Command) (next : Option Part)
      → begun clerk ≡ Some hand.command → AreBegun begun w.hands → MoveIsTold begun w (Read clerk) (read_next r w.history hand next)
  told_read begun w clerk hand None is were = record { entries = same_entries w.history; hands = begun_set begun w.hands clerk (Some hand) is were }
  told_read begun w clerk hand (Some part) is were = record { entries = same_entries w.history; hands = begun_set begun w.hands clerk _ is were }

  told_validated : (begun : ℕ → Option Command) (w : World Part Value Command Answer) (clerk : ℕ) (hand : Hand Part Value Command) (stale : Option (Stale Part))
      → begun clerk ≡ Some hand.command → AreBegun begun w.hands → MoveIsTold begun w (Commit clerk) (validated r w.history clerk hand stale)
  told_validated begun w clerk hand (Some stale) is were = record { entries = same_entries w.history; hands = begun_set begun w.hands clerk None tt were }
  told_validated begun w clerk hand None is were =
      let answer = answer_on r (value_of r w.history) hand.command in
      record {
        entries =
            ap (λ c. entered 1 w.history ++ record { clerk = clerk; command = c; place = length w.history + 1; answer = answer } ∷ []) is
            ∙ sym (entered_push 1 (length w.history + 1) w.history (record { clerk = clerk; command = hand.command; answer = answer }) (omega arith));
        hands = begun_set begun w.hands clerk None tt were;
      }

  told_commit : (begun : ℕ → Option Command) (w : World Part Value Command Answer) (clerk : ℕ) (hand : Hand Part Value Command) (next : Option Part)
      → begun clerk ≡ Some hand.command → AreBegun begun w.hands → MoveIsTold begun w (Commit clerk) (commit_read r w.history clerk hand next)
  told_commit begun w clerk hand (Some part) is were = record { entries = same_entries w.history; hands = begun_set begun w.hands clerk (Some hand) is were }
  told_commit begun w clerk hand None is were = told_validated begun w clerk hand (first_stale (version_of r w.history) hand.reads) is were

  -- whatever a clerk does
  told_move : (begun : ℕ → Option Command) (w : World Part Value Command Answer) (step : Step Command) (hand : Option (Hand Part Value Command))
      → slice_get w.hands (clerk_of step) ≡ Some hand → AreBegun begun w.hands → MoveIsTold begun w step (move_of r w.history step hand)
  told_move begun w (Begin clerk command) None at were = record { entries = same_entries w.history; hands = begun_more begun w.hands clerk command at were }
  told_move begun w (Begin clerk command) (Some hand) at were = record { entries = same_entries w.history; hands = begun_set begun w.hands clerk (Some hand) (were clerk hand at) were }
  told_move begun w (Read clerk) None at were = record { entries = same_entries w.history; hands = begun_set begun w.hands clerk None tt were }
  told_move begun w (Read clerk) (Some hand) at were = told_read begun w clerk hand (r.next_part hand.command (copies_of hand.reads)) (were clerk hand at) were
  told_move begun w (Commit clerk) None at were = record { entries = same_entries w.history; hands = begun_set begun w.hands clerk None tt were }
  told_move begun w (Commit clerk) (Some hand) at were = told_commit begun w clerk hand (r.next_part hand.command (copies_of hand.reads)) (were clerk hand at) were
  told_move begun w (Discard clerk) None at were = record { entries = same_entries w.history; hands = begun_set begun w.hands clerk None tt were }
  told_move begun w (Discard clerk) (Some hand) at were = record { entries = same_entries w.history; hands = begun_set begun w.hands clerk None tt were }

  -- a step that changed nothing
  told_still : (begun : ℕ → Option Command) (w after : World Part Value Command Answer) (step : Step Command) (outcome : Outcome Part Answer)
      → (outcome ≡ NoClerk) ⊎ (outcome ≡ NoMemory) → after ≡ w → AreBegun begun w.hands → IsTold begun w step outcome after
  told_still begun w after step outcome (inl is) same were = rw (is, same) (record { entries = append-nil (entered 1 w.history); hands = were })
  told_still begun w after step outcome (inr is) same were = rw (is, same) (record { entries = append-nil (entered 1 w.history); hands = were })

  told_step : (begun : ℕ → Option Command) (w : World Part Value Command Answer) (step : Step Command) (hand : Option (Option (Hand Part Value Command))) (outcome : Outcome Part Answer) (after : World Part Value Command Answer)
      → slice_get w.hands (clerk_of step) ≡ hand → AreBegun begun w.hands → IsStepOf r w step hand outcome after → IsTold begun w step outcome after
  told_step begun w step None outcome after at were made = told_still begun w after step outcome (inl made.0) made.1 were
  told_step begun w step (Some hand) outcome after at were (inl made) = rw (made.outcome_is, made.world_is) (told_move begun w step hand at were)
  told_step begun w step (Some hand) outcome after at were (inr refused) = told_still begun w after step outcome (inr refused.outcome_is) refused.unchanged were

  told_run : (begun : ℕ → Option Command) (w : World Part Value Command Answer) (steps : List (Step Command)) (outcomes : List (Outcome Part Answer)) (after : World Part Value Command Answer)
      → AreBegun begun w.hands → IsRun r w steps outcomes after → entered 1 w.history ++ finishes begun steps outcomes ≡ entered 1 after.history
  told_run begun w [] [] after were run = append-nil (entered 1 w.history) ∙ ap (λ (x : World Part Value Command Answer). entered 1 x.history) (sym run)
  told_run begun w (s ∷ ss) (o ∷ os) after were run =
      let told = told_step begun w s (slice_get w.hands (clerk_of s)) o run.0 refl were run.1 in
      sym (append_assoc (entered 1 w.history) (finish_of begun s o) (finishes (begun_then begun s o) ss os))
      ∙ ap (λ l. l ++ finishes (begun_then begun s o) ss os) told.entries
      ∙ told_run (begun_then begun s o) run.0 ss os after told.hands run.2
  told_run begun w [] (o ∷ os) after were run = absurd run
  told_run begun w (s ∷ ss) [] after were run = absurd run

  -- from the empty history on
  pub finished_once : (clerks : ℕ) (steps : List (Step Command)) (outcomes : List (Outcome Part Answer)) (after : World Part Value Command Answer)
      → IsRun r (opening_world clerks) steps outcomes after → finishes (λ _. None) steps outcomes ≡ entered 1 after.history
  finished_once clerks steps outcomes after run = told_run (λ _. None) (opening_world clerks) steps outcomes after (nobody_began clerks) run
