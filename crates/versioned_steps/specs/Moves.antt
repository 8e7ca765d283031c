-- What the calls that the steps make do to the draft in one clerk's hand and to the history, and what every step keeps.
use Rattle.std.specs.Prelude.{◌≡◌, ℕ, ◌+◌, [], ◌∷◌, ◌++◌, ◌⊎◌, length, Option, IfSome, List, All}
use Rattle.versioned_steps.specs.Rules.{Rules, AreAllReadsOf}
use Rattle.versioned_steps.specs.History.{answer_on, value_of}
use Rattle.versioned_steps.specs.Reads.{IsRead, IsFresh, copies_of}
use Rattle.versioned_steps.specs.Drafts.{DraftView, IsDraftOf, AreOwn}
use Rattle.versioned_steps.specs.Stores.{StoreView, Replays}
use Rattle.versioned_steps.specs.World.{Hand, World, Move, TakesMemory}
use Rattle.versioned_steps.specs.declared.entry.Entry.{Entry}
use Rattle.versioned_steps.specs.declared.step.Outcome.{Outcome}
use Rattle.versioned_steps.specs.declared.step.Outcome.TheVariants.{NoMemory}

module _ {Part Value Command Answer : Type 0} where
  -- the move was made whole
  pub record IsWhole (move : Move Part Value Command Answer) (h : List (Entry Command Answer)) (outcome : Outcome Part Answer) (hand : Option (Hand Part Value Command)) (k : List (Entry Command Answer)) : Type 0 where
    pub outcome_is : outcome ≡ move.outcome
    pub hand_is : hand ≡ move.hand
    pub history_is : k ≡ h ++ move.entries

  -- it would have taken memory that was refused, and nothing changed
  pub record IsNone (move : Move Part Value Command Answer) (before : Option (Hand Part Value Command)) (h : List (Entry Command Answer)) (outcome : Outcome Part Answer) (hand : Option (Hand Part Value Command)) (k : List (Entry Command Answer)) : Type 0 where
    pub takes_memory : TakesMemory move.outcome
    pub outcome_is : outcome ≡ NoMemory
    pub hand_is : hand ≡ before
    pub history_is : k ≡ h

  -- from this hand and this history, the move may have this outcome and leave that hand and that history
  abbrev pub Moves : Move Part Value Command Answer → Option (Hand Part Value Command) → List (Entry Command Answer) → Outcome Part Answer → Option (Hand Part Value Command) → List (Entry Command Answer) → Type 0
  Moves move before h outcome hand k = IsWhole move h outcome hand k ⊎ IsNone move before h outcome hand k

module _ {Owner Part Value Command Answer : Type 0} (r : Rules Part Value Command Answer) where
  -- the store stands for the history, and each draft was read from it by the clerk who has it in hand
  pub record IsSound (h : List (Entry Command Answer)) (store : StoreView Owner Part Value) (drafts : List (Option (DraftView Part Value Command Answer))) : Type 0 where
    pub replays : Replays r h store
    pub drafts_read : All (λ draft. IfSome draft (IsDraftOf r h)) drafts
    pub drafts_own : AreOwn drafts

-- what contracts see of the state of a run: the parts that its store is of, and its world
pub record StateView (Owner Part Value Command Answer : Type 0) : Type 0 where
  pub owner : Owner
  pub world : World Part Value Command Answer

module _ {Part Value Command Answer : Type 0} (r : Rules Part Value Command Answer) where
  -- the draft has read all, from this history, and every read is fresh
  pub record IsReady (h : List (Entry Command Answer)) (d : DraftView Part Value Command Answer) : Type 0 where
    pub all_read : AreAllReadsOf r d.command (copies_of d.reads)
    pub made : All (IsRead r h) d.reads
    pub fresh : All (IsFresh r h) d.reads

  -- the command was decided on the parts as they all are after h, and is the entry at this place, which makes k of h
  pub record IsFinished (h : List (Entry Command Answer)) (clerk : ℕ) (command : Command) (place : ℕ) (answer : Answer) (k : List (Entry Command Answer)) : Type 0 where
    pub place_is : place ≡ length h + 1
    pub answer_is : answer ≡ answer_on r (value_of r h) command
    pub history_is : k ≡ h ++ record { clerk = clerk; command = command; answer = answer_on r (value_of r h) command } ∷ []
