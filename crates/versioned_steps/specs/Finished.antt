-- What the steps of a run finished, as their outcomes say, and the entries of a history with their places.
use Rattle.std.specs.Prelude.{ℕ, ◌+◌, ◌==◌, if◌then◌else◌, Option, Some, List, [], ◌∷◌, ◌++◌}
use Rattle.versioned_steps.specs.World.{clerk_of}
use Rattle.versioned_steps.specs.declared.entry.Entry.{Entry}
use Rattle.versioned_steps.specs.declared.step.Step.{Step}
use Rattle.versioned_steps.specs.declared.step.Step.TheVariants.{Begin}
use Rattle.versioned_steps.specs.declared.step.Outcome.{Outcome}
use Rattle.versioned_steps.specs.declared.step.Outcome.TheVariants.{Began, Finished}

-- a finished command, its place in the history, counted from 1, and its answer; the command is None where its clerk had begun none
pub record Finish (Command Answer : Type 0) : Type 0 where
  pub clerk : ℕ
  pub command : Option Command
  pub place : ℕ
  pub answer : Answer

-- the command that each clerk began last, if any, where this step began one
abbrev pub begun_by : {Command : Type 0} → (ℕ → Option Command) → Step Command → ℕ → Option Command
begun_by begun (Begin clerk command) = λ other. if other == clerk then Some command else begun other
begun_by begun _ = begun

module _ {Part Command Answer : Type 0} where
  -- the command that each clerk began last, once this step had this outcome
  abbrev pub begun_then : (ℕ → Option Command) → Step Command → Outcome Part Answer → ℕ → Option Command
  begun_then begun step Began = begun_by begun step
  begun_then begun step _ = begun

  -- what a step with this outcome finished: the command that its clerk began last
  abbrev pub finish_of : (ℕ → Option Command) → Step Command → Outcome Part Answer → List (Finish Command Answer)
  finish_of begun step (Finished place answer) = record { clerk = clerk_of step; command = begun (clerk_of step); place = place; answer = answer } ∷ []
  finish_of begun step _ = []

  -- what these steps finished, in their order, where the clerks began these before
  abbrev pub finishes : (ℕ → Option Command) → List (Step Command) → List (Outcome Part Answer) → List (Finish Command Answer)
  finishes begun [] outcomes = []
  finishes begun (step ∷ steps) [] = []
  finishes begun (step ∷ steps) (outcome ∷ outcomes) = finish_of begun step outcome ++ finishes (begun_then begun step outcome) steps outcomes

-- the entries of a history with their places, where the first one has this place
abbrev pub entered : {Command Answer : Type 0} → ℕ → List (Entry Command Answer) → List (Finish Command Answer)
entered place [] = []
entered place (e ∷ es) = record { clerk = e.clerk; command = Some e.command; place = place; answer = e.answer } ∷ entered (place + 1) es
