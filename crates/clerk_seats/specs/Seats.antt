-- A seat, and what its calls do to it.
use Rattle.std.specs.Prelude.{◌≡◌, ℕ, Option, Some, None, List, [], ◌∷◌, ◌++◌}
use Rattle.std.specs.declared.result.Result.{Result}
use Rattle.std.specs.declared.result.Result.TheVariants.{Ok, Err}
use mathlib.Core.List.{IsPrefix}
use Rattle.docket_rows.specs.declared.answer.Answer.{Answer}
use Rattle.docket_rows.specs.declared.command.Command.{Command}
use Rattle.docket_rows.specs.Words.{CourtSetup}
use Rattle.versioned_steps.specs.declared.entry.Entry.{Entry}
use Rattle.versioned_steps.specs.Words.{IsReadAll}
use Rattle.shared_docket.specs.Words.{docket_rules}
use Rattle.clerk_seats.specs.declared.done.Done.{Done}
use Rattle.clerk_seats.specs.declared.fault.CommitError.{CommitError}
use Rattle.clerk_seats.specs.declared.fault.CommitError.TheVariants.{NothingPrepared, JournalFull, Stale, OutOfMemory}
use Rattle.clerk_seats.specs.declared.fault.PerformError.{PerformError}
use Rattle.clerk_seats.specs.Finished.{DocketDraft, Settles, Makes}

-- what contracts see of a seat: its number, how many entries the journal takes, what it has seen of the history, the places of the
-- calls that it finished, in order, and its draft
pub record SeatView : Type 0 where
  pub number : ℕ
  pub limit : ℕ
  pub seen : List (Entry Command Answer)
  pub mine : List ℕ
  pub draft : Option DocketDraft

-- the seat keeps its number and its limit, and has seen no less
pub record Goes (old new : SeatView) : Type 0 where
  pub number : new.number ≡ old.number
  pub limit : new.limit ≡ old.limit
  pub seen : IsPrefix old.seen new.seen

-- the calls finished after this result, and the draft that is left after this result of a commit
abbrev pub mine_then : {E : Type 0} → Result Done E → List ℕ → List ℕ
mine_then (Ok done) mine = mine ++ done.place ∷ []
mine_then (Err e) mine = mine

abbrev pub draft_then : Result Done CommitError → Option DocketDraft → Option DocketDraft
draft_then (Ok done) draft = None
draft_then (Err (Stale part version)) draft = None
draft_then (Err NothingPrepared) draft = draft
draft_then (Err JournalFull) draft = draft
draft_then (Err OutOfMemory) draft = draft

module _ (setup : CourtSetup) where
  -- the seat now has a draft of this command, all of whose parts were read at the end of what it has seen now
  pub record IsReady (seat : SeatView) (command : Command) (d : DocketDraft) : Type 0 where
    pub clerk : d.clerk ≡ seat.number
    pub command_is : d.command ≡ command
    pub read : IsReadAll (docket_rules setup) seat.seen d

  -- a draft is committed as the history is then; where there is none, that is the answer
  abbrev pub DraftCommits : Option DocketDraft → (seen : List (Entry Command Answer)) → (limit : ℕ) → Result Done CommitError → (now : List (Entry Command Answer)) → Type 0
  DraftCommits None seen limit result now = (result ≡ Err NothingPrepared) × (now ≡ seen)
  DraftCommits (Some d) seen limit result now = Settles setup seen limit d result now

  -- what this result of a seat's commit says
  pub record SeatCommits (old : SeatView) (result : Result Done CommitError) (new : SeatView) : Type 0 where
    pub goes : Goes old new
    pub commits : DraftCommits old.draft old.seen old.limit result new.seen
    pub mine : new.mine ≡ mine_then result old.mine
    pub draft : new.draft ≡ draft_then result old.draft

  -- what this result of performing a command says
  pub record SeatPerforms (old : SeatView) (command : Command) (result : Result Done PerformError) (new : SeatView) : Type 0 where
    pub goes : Goes old new
    pub makes : Makes setup old.seen old.limit old.number command result new.seen
    pub mine : new.mine ≡ mine_then result old.mine
    pub draft : new.draft ≡ None
