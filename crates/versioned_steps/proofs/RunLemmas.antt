-- The history of a run is legal, and a legal history is a serial one.
use Rattle.std.proofs.Common.{◌≡◌, ℕ, true, Option, Some, None, List, [], ◌∷◌, ◌++◌, inl, inr, map, slice_get, refl, ap, ◌∙◌}
use Rattle.std.proofs.lemmas.Bool.{and_parts}
use Rattle.std.proofs.lemmas.List.{append-nil}
use Rattle.versioned_steps.specs.Rules.{Rules, IsLawful}
use Rattle.versioned_steps.specs.History.{written, answer_on, writes_on, values_after, version_of, is_legal_from, is_legal}
use Rattle.versioned_steps.specs.Reads.{copies_of, first_stale}
use Rattle.versioned_steps.specs.Inside.Serial.{served, IsSerial}
use Rattle.versioned_steps.specs.World.{Hand, World, IsStepOf, IsRun, clerk_of, move_of, read_next, validated, commit_read}
use Rattle.versioned_steps.specs.declared.entry.Entry.{Entry}
use Rattle.versioned_steps.specs.declared.stale.Stale.{Stale}
use Rattle.versioned_steps.specs.declared.step.Step.{Step}
use Rattle.versioned_steps.specs.declared.step.Step.TheVariants.{Begin, Read, Commit, Discard}
use Rattle.versioned_steps.specs.declared.step.Outcome.{Outcome}
use Rattle.versioned_steps.proofs.HistoryLemmas.{legal_push}

module _ {Part Value Command Answer : Type 0} (r : Rules Part Value Command Answer) where
  -- a move that appends nothing
  legal_still : (h : List (Entry Command Answer)) → is_legal r h ≡ true → is_legal r (h ++ []) ≡ true
  legal_still h legal = ap (is_legal r) (append-nil h) ∙ legal

  legal_validated : IsLawful r → (h : List (Entry Command Answer)) (clerk : ℕ) (hand : Hand Part Value Command) (stale : Option (Stale Part)) → is_legal r h ≡ true
      → is_legal r (h ++ (validated r h clerk hand stale).entries) ≡ true
  legal_validated laws h clerk hand (Some stale) legal = legal_still h legal
  legal_validated laws h clerk hand None legal = legal_push r laws h _ legal (record { answer = refl })

  legal_commit : IsLawful r → (h : List (Entry Command Answer)) (clerk : ℕ) (hand : Hand Part Value Command) (next : Option Part) → is_legal r h ≡ true
      → is_legal r (h ++ (commit_read r h clerk hand next).entries) ≡ true
  legal_commit laws h clerk hand (Some part) legal = legal_still h legal
  legal_commit laws h clerk hand None legal = legal_validated laws h clerk hand (first_stale (version_of r h) hand.reads) legal

  legal_read : (h : List (Entry Command Answer)) (hand : Hand Part Value Command) (next : Option Part) → is_legal r h ≡ true → is_legal r (h ++ (read_next r h hand next).entries) ≡ true
  legal_read h hand None legal = legal_still h legal
  legal_read h hand (Some part) legal = legal_still h legal

  -- whatever a clerk does, a legal history stays legal
  legal_move : IsLawful r → (h : List (Entry Command Answer)) (step : Step Command) (hand : Option (Hand Part Value Command)) → is_legal r h ≡ true
      → is_legal r (h ++ (move_of r h step hand).entries) ≡ true
  legal_move laws h (Begin clerk command) None legal = legal_still h legal
  legal_move laws h (Begin clerk command) (Some hand) legal = legal_still h legal
  legal_move laws h (Read clerk) None legal = legal_still h legal
  legal_move laws h (Read clerk) (Some hand) legal = legal_read h hand (r.next_part hand.command (copies_of hand.reads)) legal
  legal_move laws h (Commit clerk) None legal = legal_still h legal
  legal_move laws h (Commit clerk) (Some hand) legal = legal_commit laws h clerk hand (r.next_part hand.command (copies_of hand.reads)) legal
  legal_move laws h (Discard clerk) None legal = legal_still h legal
  legal_move laws h (Discard clerk) (Some hand) legal = legal_still h legal

  legal_step : IsLawful r → (w : World Part Value Command Answer) (step : Step Command) (hand : Option (Option (Hand Part Value Command))) (outcome : Outcome Part Answer) (after : World Part Value Command Answer)
      → is_legal r w.history ≡ true → IsStepOf r w step hand outcome after → is_legal r after.history ≡ true
  legal_step laws w step None outcome after legal made = ap (λ (x : World Part Value Command Answer). is_legal r x.history) made.1 ∙ legal
  legal_step laws w step (Some hand) outcome after legal (inl made) =
      ap (λ (x : World Part Value Command Answer). is_legal r x.history) made.world_is ∙ legal_move laws w.history step hand legal
  legal_step laws w step (Some hand) outcome after legal (inr refused) = ap (λ (x : World Part Value Command Answer). is_legal r x.history) refused.unchanged ∙ legal

  -- the history of a run from a legal history is legal
  pub run_legal : IsLawful r → (w : World Part Value Command Answer) (steps : List (Step Command)) (outcomes : List (Outcome Part Answer)) (after : World Part Value Command Answer)
      → is_legal r w.history ≡ true → IsRun r w steps outcomes after → is_legal r after.history ≡ true
  run_legal laws w [] [] after legal run = ap (λ (x : World Part Value Command Answer). is_legal r x.history) run ∙ legal
  run_legal laws w (s ∷ ss) (o ∷ os) after legal run =
      run_legal laws run.0 ss os after (legal_step laws w s (slice_get w.hands (clerk_of s)) o run.0 legal run.1) run.2
  run_legal laws w [] (o ∷ os) after legal run = absurd run
  run_legal laws w (s ∷ ss) [] after legal run = absurd run

  -- the parts after a history are those that its commands, each decided alone, leave
  served_values : (values : Part → Value) (h : List (Entry Command Answer)) → values_after r values h ≡ (served r values (map (λ e. e.command) h)).values
  unfolding values_after
  served_values values [] = refl
  served_values values (e ∷ es) = served_values (written r values (writes_on r values e.command)) es

  -- the answers of a legal history are those that its commands, each decided alone, get
  served_answers : IsLawful r → (values : Part → Value) (h : List (Entry Command Answer)) → is_legal_from r values h ≡ true
      → map (λ e. e.answer) h ≡ (served r values (map (λ e. e.command) h)).answers
  unfolding is_legal_from
  served_answers laws values [] legal = refl
  served_answers laws values (e ∷ es) legal =
      let both = and_parts _ _ legal in
      let next = written r values (writes_on r values e.command) in
      ap (λ a. a ∷ map (λ (x : Entry Command Answer). x.answer) es) (laws.answers_equal _ _ both.0)
      ∙ ap (λ l. answer_on r values e.command ∷ l) (served_answers laws next es both.1)

  pub legal_serial : IsLawful r → (h : List (Entry Command Answer)) → is_legal r h ≡ true → IsSerial r h
  legal_serial laws h legal =
      record { answers = served_answers laws r.opening h legal; values = λ part. ap (λ (f : Part → Value). f part) (served_values r.opening h) }
