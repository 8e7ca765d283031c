-- A legal history of the docket's parts is one of the docket of one clerk.
use Rattle.std.proofs.Common.{◌≡◌, ℕ, zero, suc, true, List, [], ◌∷◌, drop, take, unwrap_or, refl, ap, sym, ◌∙◌}
use Rattle.docket_rows.specs.declared.answer.Answer.{Answer}
use Rattle.docket_rows.specs.declared.command.Command.{Command}
use Rattle.docket_rows.specs.declared.part.PartId.{PartId}
use Rattle.docket_rows.specs.declared.part.PartValue.{PartValue}
use Rattle.docket_rows.specs.Words.{CourtSetup, Rows, AreSound, AreLawful, opening_rows, part_value, parts_of, step, rows_from}
use Rattle.docket_laws.proofs.CallerLemmas.{sound_opening, sound_step, lawful_docket, decided_answer, decided_parts}
use Rattle.versioned_steps.specs.Words.{World, IsRun, opening_world, reads_on, answer_on, writes_on, write_to, written, value_of, is_legal, served}
use Rattle.versioned_steps.specs.declared.entry.Entry.{Entry}
use Rattle.versioned_steps.specs.declared.step.Step.{Step}
use Rattle.versioned_steps.specs.declared.step.Outcome.{Outcome}
use Rattle.versioned_steps.proofs.CallerLemmas.{legal_empty, legal_serial, run_legal, reads_whole}
use Rattle.shared_docket.specs.Always.{HoldsAfter}
use Rattle.shared_docket.specs.DocketLawful.{docket_lawful}
use Rattle.shared_docket.specs.DocketRules.{docket_rules}
use Rattle.shared_docket.specs.Sequential.{step_answers, commands_of, rows_of, IsSequential, IsLawfulAfter}

module _ (setup : CourtSetup) where
  -- the values are those of the parts of the rows
  abbrev pub StandFor : (PartId → PartValue) → Rows → Type 0
  StandFor values rows = (part : PartId) → values part ≡ part_value (parts_of rows) part

  -- a command decided on such values is answered as its step, and leaves the values of the parts of the rows after it
  answer_is : (values : PartId → PartValue) (rows : Rows) (command : Command) → AreSound setup rows → StandFor values rows → answer_on (docket_rules setup) values command ≡ (step setup rows command).1
  unfolding docket_rules
  answer_is values rows command sound stand =
      let whole = reads_whole (docket_rules setup) (docket_lawful setup) values command in
      decided_answer setup rows sound command (reads_on (docket_rules setup) values command) whole.0.ended (λ k d within. whole.1 k d within ∙ stand _)

  values_are : (values : PartId → PartValue) (rows : Rows) (command : Command) → AreSound setup rows → StandFor values rows → StandFor (written (docket_rules setup) values (writes_on (docket_rules setup) values command)) (step setup rows command).0
  unfolding docket_rules
  values_are values rows command sound stand part =
      let whole = reads_whole (docket_rules setup) (docket_lawful setup) values command in
      let writes = writes_on (docket_rules setup) values command in
      ap (unwrap_or (write_to (docket_rules setup) part writes)) (stand part)
      ∙ sym (decided_parts setup rows sound command (reads_on (docket_rules setup) values command) whole.0.ended (λ k d within. whole.1 k d within ∙ stand _) part)

  -- so for one command after another
  served_answers : (values : PartId → PartValue) (rows : Rows) (commands : List Command) → AreSound setup rows → StandFor values rows → (served (docket_rules setup) values commands).answers ≡ step_answers setup rows commands
  served_answers values rows [] sound stand = refl
  served_answers values rows (c ∷ cs) sound stand =
      let next = written (docket_rules setup) values (writes_on (docket_rules setup) values c) in
      ap (λ a. a ∷ (served (docket_rules setup) next cs).answers) (answer_is values rows c sound stand)
      ∙ ap (λ l. (step setup rows c).1 ∷ l) (served_answers next (step setup rows c).0 cs (sound_step setup rows c sound) (values_are values rows c sound stand))

  served_values : (values : PartId → PartValue) (rows : Rows) (commands : List Command) → AreSound setup rows → StandFor values rows → StandFor (served (docket_rules setup) values commands).values (rows_from setup rows commands)
  unfolding rows_from
  served_values values rows [] sound stand = stand
  served_values values rows (c ∷ cs) sound stand =
      served_values (written (docket_rules setup) values (writes_on (docket_rules setup) values c)) (step setup rows c).0 cs (sound_step setup rows c sound) (values_are values rows c sound stand)

  opening_stands : StandFor (docket_rules setup).opening (opening_rows setup)
  unfolding docket_rules
  opening_stands part = refl

  -- a legal history has the answers of the steps, and its parts are those of the rows
  pub legal_sequential : (history : List (Entry Command Answer)) → is_legal (docket_rules setup) history ≡ true → IsSequential setup history
  legal_sequential history legal =
      (legal_serial (docket_rules setup) (docket_lawful setup) history legal).answers
      ∙ served_answers (docket_rules setup).opening (opening_rows setup) (commands_of history) (sound_opening setup) opening_stands

  pub legal_values : (history : List (Entry Command Answer)) → is_legal (docket_rules setup) history ≡ true → (part : PartId) → value_of (docket_rules setup) history part ≡ part_value (parts_of (rows_of setup history)) part
  legal_values history legal part =
      (legal_serial (docket_rules setup) (docket_lawful setup) history legal).values part
      ∙ served_values (docket_rules setup).opening (opening_rows setup) (commands_of history) (sound_opening setup) opening_stands part

  -- the rows of every history are lawful
  pub history_lawful : (history : List (Entry Command Answer)) → AreLawful setup (rows_of setup history)
  history_lawful history = lawful_docket setup (commands_of history)

  -- a run, cut in two after some of its steps
  run_cut : (w : World PartId PartValue Command Answer) (steps : List (Step Command)) (outcomes : List (Outcome PartId Answer)) (after : World PartId PartValue Command Answer) → IsRun (docket_rules setup) w steps outcomes after → (made : ℕ)
      → (between : World PartId PartValue Command Answer) × IsRun (docket_rules setup) w (take made steps) (take made outcomes) between × IsRun (docket_rules setup) between (drop made steps) (drop made outcomes) after
  run_cut w steps outcomes after run zero = (w, refl, run)
  run_cut w [] [] after run (suc n) = (w, refl, run)
  run_cut w (s ∷ ss) (o ∷ os) after run (suc n) = let rest = run_cut run.0 ss os after run.2 n in (rest.0, (run.0, run.1, rest.1), rest.2)
  run_cut w [] (o ∷ os) after run (suc n) = absurd run
  run_cut w (s ∷ ss) [] after run (suc n) = absurd run

  -- what holds of legal histories holds after each step
  pub holds_after : (claim : List (Entry Command Answer) → Type 0) → ((history : List (Entry Command Answer)) → is_legal (docket_rules setup) history ≡ true → claim history) → (clerks : ℕ) (steps : List (Step Command)) (outcomes : List (Outcome PartId Answer)) (after : World PartId PartValue Command Answer) → IsRun (docket_rules setup) (opening_world clerks) steps outcomes after → (made : ℕ) → HoldsAfter claim setup clerks steps outcomes after made
  holds_after claim of_legal clerks steps outcomes after run made =
      let cut = run_cut (opening_world clerks) steps outcomes after run made in
      let legal = run_legal (docket_rules setup) (docket_lawful setup) (opening_world clerks) (take made steps) (take made outcomes) cut.0 (legal_empty (docket_rules setup)) cut.1 in
      record { between = cut.0; so_far = cut.1; from_there = cut.2; holds = of_legal cut.0.history legal }

  pub lawful_after_each : (clerks : ℕ) (steps : List (Step Command)) (outcomes : List (Outcome PartId Answer)) (after : World PartId PartValue Command Answer) → IsRun (docket_rules setup) (opening_world clerks) steps outcomes after → (made : ℕ) → IsLawfulAfter setup clerks steps outcomes made
  lawful_after_each clerks steps outcomes after run made =
      let cut = holds_after (IsSequential setup) legal_sequential clerks steps outcomes after run made in
      record { world = cut.between; run = cut.so_far; answers = cut.holds; lawful = history_lawful cut.between.history }
