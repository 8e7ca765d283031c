-- The docket of one clerk, which finishes one command after another.
use Rattle.std.specs.Prelude.{◌≡◌, ℕ, List, [], ◌∷◌, map, take}
use Rattle.docket_rows.specs.declared.answer.Answer.{Answer}
use Rattle.docket_rows.specs.declared.command.Command.{Command}
use Rattle.docket_rows.specs.declared.part.PartId.{PartId}
use Rattle.docket_rows.specs.declared.part.PartValue.{PartValue}
use Rattle.docket_rows.specs.Words.{CourtSetup, Rows, AreLawful, opening_rows, step}
use Rattle.docket_laws.specs.Words.{docket_after}
use Rattle.versioned_steps.specs.Words.{World, IsRun, opening_world}
use Rattle.versioned_steps.specs.declared.entry.Entry.{Entry}
use Rattle.versioned_steps.specs.declared.step.Step.{Step}
use Rattle.versioned_steps.specs.declared.step.Outcome.{Outcome}
use Rattle.shared_docket.specs.DocketRules.{docket_rules}

-- what these commands are answered, from these rows on: each by one step, on the rows that those before it left
abbrev pub step_answers : CourtSetup → Rows → List Command → List Answer
step_answers setup rows [] = []
step_answers setup rows (c ∷ cs) = (step setup rows c).1 ∷ step_answers setup (step setup rows c).0 cs

abbrev pub commands_of : List (Entry Command Answer) → List Command
commands_of history = map (λ (e : Entry Command Answer). e.command) history

-- the rows after the commands of a history, from the days of the court's file on
abbrev pub rows_of : CourtSetup → List (Entry Command Answer) → Rows
rows_of setup history = docket_after setup (commands_of history)

-- the history is legal for the docket of one clerk: each entry has the answer of the step on the rows of those before it
abbrev pub IsSequential : CourtSetup → List (Entry Command Answer) → Type 0
IsSequential setup history = map (λ (e : Entry Command Answer). e.answer) history ≡ step_answers setup (opening_rows setup) (commands_of history)

-- the first `made` steps led to a world whose history is legal and whose rows are lawful
pub record IsLawfulAfter (setup : CourtSetup) (clerks : ℕ) (steps : List (Step Command)) (outcomes : List (Outcome PartId Answer)) (made : ℕ) : Type 0 where
  pub world : World PartId PartValue Command Answer
  pub run : IsRun (docket_rules setup) (opening_world clerks) (take made steps) (take made outcomes) world
  pub answers : IsSequential setup world.history
  pub lawful : AreLawful setup (rows_of setup world.history)
