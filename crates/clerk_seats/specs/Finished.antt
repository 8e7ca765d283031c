-- What comes of finishing a command at the end of the one history.
use Rattle.std.specs.Prelude.{◌≡◌, ℕ, ◌+◌, ◌<◌, ◌≤◌, true, List, [], ◌∷◌, ◌++◌, length, All}
use Rattle.std.specs.declared.result.Result.{Result}
use Rattle.std.specs.declared.result.Result.TheVariants.{Ok, Err}
use mathlib.Core.List.{IsPrefix}
use Rattle.docket_rows.specs.declared.answer.Answer.{Answer}
use Rattle.docket_rows.specs.declared.command.Command.{Command}
use Rattle.docket_rows.specs.declared.part.PartId.{PartId}
use Rattle.docket_rows.specs.declared.part.PartValue.{PartValue}
use Rattle.docket_rows.specs.Words.{CourtSetup}
use Rattle.versioned_steps.specs.declared.entry.Entry.{Entry}
use Rattle.versioned_steps.specs.Words.{DraftView, IsFresh, IsStale, answer_on, is_legal, value_of}
use Rattle.shared_docket.specs.Words.{docket_rules}
use Rattle.clerk_seats.specs.declared.done.Done.{Done}
use Rattle.clerk_seats.specs.declared.fault.CommitError.{CommitError}
use Rattle.clerk_seats.specs.declared.fault.CommitError.TheVariants.{NothingPrepared, JournalFull, Stale, OutOfMemory}
use Rattle.clerk_seats.specs.declared.fault.PerformError.{PerformError}
use Rattle.clerk_seats.specs.declared.fault.PerformError.TheVariants as perform

-- a draft of a docket's command
abbrev pub DocketDraft : Type 0
DocketDraft = DraftView PartId PartValue Command Answer

module _ (setup : CourtSetup) where
  -- the entry that the command becomes after this history: its answer is decided on the parts as they all are then
  abbrev pub next_entry : List (Entry Command Answer) → (clerk : ℕ) → Command → Entry Command Answer
  next_entry history clerk command = record { clerk = clerk; command = command; answer = answer_on (docket_rules setup) (value_of (docket_rules setup) history) command }

  module _ (before : List (Entry Command Answer)) (limit : ℕ) where
    -- there was room, and the command became the next entry
    pub record IsMade (clerk : ℕ) (command : Command) (done : Done) (after : List (Entry Command Answer)) : Type 0 where
      pub room : length before < limit
      pub place : done.place ≡ length before + 1
      pub answer : done.answer ≡ (next_entry before clerk command).answer
      pub history : after ≡ before ++ next_entry before clerk command ∷ []

    -- so did a draft, of which no part was touched after it was read
    pub record IsCommitted (d : DocketDraft) (done : Done) (after : List (Entry Command Answer)) : Type 0 where
      pub made : IsMade d.clerk d.command done after
      pub fresh : All (IsFresh (docket_rules setup) before) d.reads

    -- the journal had all the entries that it takes
    pub record IsFull (after : List (Entry Command Answer)) : Type 0 where
      pub full : limit ≤ length before
      pub same : after ≡ before

    -- there was room, but this is the first part in read order that was touched later, and its version now
    pub record IsOutdated (d : DocketDraft) (part : PartId) (version : ℕ) (after : List (Entry Command Answer)) : Type 0 where
      pub room : length before < limit
      pub stale : IsStale (docket_rules setup) before d.reads part version
      pub same : after ≡ before

    -- the draft could have been committed, but no memory was left
    pub record LacksMemory (d : DocketDraft) (after : List (Entry Command Answer)) : Type 0 where
      pub room : length before < limit
      pub fresh : All (IsFresh (docket_rules setup) before) d.reads
      pub same : after ≡ before

    -- what this result of committing a draft says
    abbrev pub Commits : DocketDraft → Result Done CommitError → (after : List (Entry Command Answer)) → Type 0
    Commits d (Ok done) after = IsCommitted d done after
    Commits d (Err JournalFull) after = IsFull after
    Commits d (Err (Stale part version)) after = IsOutdated d part version after
    Commits d (Err OutOfMemory) after = LacksMemory d after
    Commits d (Err NothingPrepared) after = ⊥

    -- what this result of making a command says, where all its reads are made now; want of memory may come before all else
    abbrev pub MakesNow : (clerk : ℕ) → Command → Result Done PerformError → (after : List (Entry Command Answer)) → Type 0
    MakesNow clerk command (Ok done) after = IsMade clerk command done after
    MakesNow clerk command (Err perform.JournalFull) after = IsFull after
    MakesNow clerk command (Err perform.OutOfMemory) after = after ≡ before

  -- the history had grown to this one since it was seen; the draft was committed then, and all is seen now
  pub record Settles (seen : List (Entry Command Answer)) (limit : ℕ) (d : DocketDraft) (result : Result Done CommitError) (now : List (Entry Command Answer)) : Type 0 where
    pub before : List (Entry Command Answer)
    pub later : IsPrefix seen before
    pub commits : Commits before limit d result now
    pub legal : is_legal (docket_rules setup) now ≡ true

  -- so for a command that was made whole
  pub record Makes (seen : List (Entry Command Answer)) (limit : ℕ) (clerk : ℕ) (command : Command) (result : Result Done PerformError) (now : List (Entry Command Answer)) : Type 0 where
    pub before : List (Entry Command Answer)
    pub later : IsPrefix seen before
    pub makes : MakesNow before limit clerk command result now
    pub legal : is_legal (docket_rules setup) now ≡ true
