-- The world of small steps: one history, and what each clerk has in hand.
use Rattle.std.specs.Prelude.{◌≡◌, ℕ, ◌+◌, Option, Some, None, option_map, List, [], ◌∷◌, ◌++◌, ◌⊎◌, length, map, replicate, slice_get, slice_set, ⊤}
use Rattle.versioned_steps.specs.Rules.{Rules}
use Rattle.versioned_steps.specs.History.{value_of, version_of, answer_on}
use Rattle.versioned_steps.specs.Reads.{Read, copies_of, first_stale, read_now}
use Rattle.versioned_steps.specs.Drafts.{DraftView}
use Rattle.versioned_steps.specs.declared.entry.Entry.{Entry}
use Rattle.versioned_steps.specs.declared.stale.Stale.{Stale}
use Rattle.versioned_steps.specs.declared.step.Step.{Step}
use Rattle.versioned_steps.specs.declared.step.Step.TheVariants.{Begin, Read as ReadNext, Commit, Discard}
use Rattle.versioned_steps.specs.declared.step.Outcome.{Outcome}
use Rattle.versioned_steps.specs.declared.step.Outcome.TheVariants.{Began, Busy, Idle, NoClerk, ReadPart, Ready, NotRead, Finished, WasStale, Discarded, NoMemory}

-- a command that a clerk has in hand, with what was read for it
pub record Hand (Part Value Command : Type 0) : Type 0 where
  pub command : Command
  pub reads : List (Read Part Value)

pub record World (Part Value Command Answer : Type 0) : Type 0 where
  pub history : List (Entry Command Answer)
  pub hands : List (Option (Hand Part Value Command))  -- one for each clerk, from clerk 0 on

-- what one step of a clerk does: its outcome, what the clerk has in hand after it, and the entry that it appends, if any
pub record Move (Part Value Command Answer : Type 0) : Type 0 where
  pub outcome : Outcome Part Answer
  pub hand : Option (Hand Part Value Command)
  pub entries : List (Entry Command Answer)

abbrev pub clerk_of : {Command : Type 0} → Step Command → ℕ
clerk_of (Begin clerk command) = clerk
clerk_of (ReadNext clerk) = clerk
clerk_of (Commit clerk) = clerk
clerk_of (Discard clerk) = clerk

-- the outcomes in whose place NoMemory may come
abbrev pub TakesMemory : {Part Answer : Type 0} → Outcome Part Answer → Type 0
TakesMemory Began = ⊤
TakesMemory (ReadPart part version) = ⊤
TakesMemory (Finished place answer) = ⊤
TakesMemory Busy = ⊥
TakesMemory Idle = ⊥
TakesMemory NoClerk = ⊥
TakesMemory Ready = ⊥
TakesMemory NotRead = ⊥
TakesMemory (WasStale part version) = ⊥
TakesMemory Discarded = ⊥
TakesMemory NoMemory = ⊥

module _ {Part Value Command Answer : Type 0} where
  -- an outcome that leaves hand and history as they are
  abbrev pub only : Outcome Part Answer → Option (Hand Part Value Command) → Move Part Value Command Answer
  only outcome hand = record { outcome = outcome; hand = hand; entries = [] }

  -- an idle clerk takes the command up, with no reads
  abbrev pub begin_move : Command → Option (Hand Part Value Command) → Move Part Value Command Answer
  begin_move command (Some hand) = only Busy (Some hand)
  begin_move command None = only Began (Some (record { command = command; reads = [] }))

  abbrev pub discard_move : Option (Hand Part Value Command) → Move Part Value Command Answer
  discard_move None = only Idle None
  discard_move (Some hand) = only Discarded None

  -- the world after a clerk's move
  abbrev pub moved : World Part Value Command Answer → ℕ → Move Part Value Command Answer → World Part Value Command Answer
  moved w clerk move = record { history = w.history ++ move.entries; hands = slice_set w.hands clerk move.hand }

  -- a move was made whole; or it would have taken memory that was refused, and nothing changed
  pub record IsMade (w : World Part Value Command Answer) (clerk : ℕ) (move : Move Part Value Command Answer) (outcome : Outcome Part Answer) (after : World Part Value Command Answer) : Type 0 where
    pub outcome_is : outcome ≡ move.outcome
    pub world_is : after ≡ moved w clerk move

  pub record IsRefused (w : World Part Value Command Answer) (move : Move Part Value Command Answer) (outcome : Outcome Part Answer) (after : World Part Value Command Answer) : Type 0 where
    pub takes_memory : TakesMemory move.outcome
    pub outcome_is : outcome ≡ NoMemory
    pub unchanged : after ≡ w

module _ {Part Value Command Answer : Type 0} (r : Rules Part Value Command Answer) where
  -- the next part is read as it now is; which part is next follows the values read before
  abbrev pub read_next : List (Entry Command Answer) → Hand Part Value Command → Option Part → Move Part Value Command Answer
  read_next history hand None = only Ready (Some hand)
  read_next history hand (Some part) =
      only (ReadPart part (version_of r history part)) (Some (record { command = hand.command; reads = hand.reads ++ read_now r history part ∷ [] }))

  abbrev pub read_move : List (Entry Command Answer) → Option (Hand Part Value Command) → Move Part Value Command Answer
  read_move history None = only Idle None
  read_move history (Some hand) = read_next history hand (r.next_part hand.command (copies_of hand.reads))

  -- a command whose reads are all fresh is decided on the parts as they all are now, and becomes the next entry
  abbrev pub validated : List (Entry Command Answer) → ℕ → Hand Part Value Command → Option (Stale Part) → Move Part Value Command Answer
  validated history clerk hand (Some stale) = only (WasStale stale.part stale.version) None
  validated history clerk hand None =
      let answer = answer_on r (value_of r history) hand.command in
      record {
        outcome = Finished (length history + 1) answer;
        hand = None;
        entries = record { clerk = clerk; command = hand.command; answer = answer } ∷ [];
      }

  -- first that all is read, then that nothing read was touched since
  abbrev pub commit_read : List (Entry Command Answer) → ℕ → Hand Part Value Command → Option Part → Move Part Value Command Answer
  commit_read history clerk hand (Some part) = only NotRead (Some hand)
  commit_read history clerk hand None = validated history clerk hand (first_stale (version_of r history) hand.reads)

  abbrev pub commit_move : List (Entry Command Answer) → ℕ → Option (Hand Part Value Command) → Move Part Value Command Answer
  commit_move history clerk None = only Idle None
  commit_move history clerk (Some hand) = commit_read history clerk hand (r.next_part hand.command (copies_of hand.reads))

  -- what a step does where its clerk has this in hand
  abbrev pub move_of : List (Entry Command Answer) → Step Command → Option (Hand Part Value Command) → Move Part Value Command Answer
  move_of history (Begin clerk command) hand = begin_move command hand
  move_of history (ReadNext clerk) hand = read_move history hand
  move_of history (Commit clerk) hand = commit_move history clerk hand
  move_of history (Discard clerk) hand = discard_move hand

  -- from w this step, of a clerk who has this in hand (none: there is no such clerk), may have this outcome and lead to that world
  abbrev pub IsStepOf : World Part Value Command Answer → Step Command → Option (Option (Hand Part Value Command)) → Outcome Part Answer → World Part Value Command Answer → Type 0
  IsStepOf w step None outcome after = (outcome ≡ NoClerk) × (after ≡ w)
  IsStepOf w step (Some hand) outcome after =
      IsMade w (clerk_of step) (move_of w.history step hand) outcome after ⊎ IsRefused w (move_of w.history step hand) outcome after

  abbrev pub IsStep : World Part Value Command Answer → Step Command → Outcome Part Answer → World Part Value Command Answer → Type 0
  IsStep w step outcome after = IsStepOf w step (slice_get w.hands (clerk_of step)) outcome after

  -- made one after another, these steps may have these outcomes, one each, and lead from the first world to the second
  abbrev pub IsRun : World Part Value Command Answer → List (Step Command) → List (Outcome Part Answer) → World Part Value Command Answer → Type 0
  IsRun w [] [] after = after ≡ w
  IsRun w (step ∷ steps) (outcome ∷ outcomes) after = (between : World Part Value Command Answer) × IsStep w step outcome between × IsRun between steps outcomes after
  IsRun w [] (outcome ∷ outcomes) after = ⊥
  IsRun w (step ∷ steps) [] after = ⊥

-- no entry, and nobody has a command in hand
abbrev pub opening_world : {Part Value Command Answer : Type 0} → ℕ → World Part Value Command Answer
opening_world clerks = record { history = []; hands = replicate clerks None }

-- what a clerk has in hand, of a draft
abbrev pub hand_of : {Part Value Command Answer : Type 0} → Option (DraftView Part Value Command Answer) → Option (Hand Part Value Command)
hand_of draft = option_map (λ d. record { command = d.command; reads = d.reads }) draft

-- the world that a history and the clerks' drafts are
abbrev pub world_of : {Part Value Command Answer : Type 0} → List (Entry Command Answer) → List (Option (DraftView Part Value Command Answer)) → World Part Value Command Answer
world_of history drafts = record { history = history; hands = map hand_of drafts }
