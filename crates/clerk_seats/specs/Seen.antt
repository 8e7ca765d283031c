-- What a seat has seen of the history, and what its reader knows of it.
use Rattle.std.specs.Prelude.{◌≡◌, ℕ, ◌<◌, true, Option, Some, IfSome, List, length}
use Rattle.logbook.specs.Pages.{Book}
use Rattle.docket_rows.specs.declared.answer.Answer.{Answer}
use Rattle.docket_rows.specs.declared.command.Command.{Command}
use Rattle.docket_rows.specs.Words.{CourtSetup}
use Rattle.versioned_steps.specs.declared.entry.Entry.{Entry}
use Rattle.versioned_steps.specs.Words.{IsPrepared, is_legal}
use Rattle.shared_docket.specs.Words.{docket_rules}
use Rattle.published_docket.specs.declared.known.Known.{Known}
use Rattle.published_docket.specs.Words.{TrailView, IsBeginning}
use Rattle.clerk_seats.specs.Finished.{DocketDraft}
use Rattle.clerk_seats.specs.Places.{places_of, Within}

-- the reader knows of this court and this history
pub record KnowsOf (history : Book) (setup : CourtSetup) (known : Option Known) : Type 0 where
  pub knows : Known
  pub there : known ≡ Some knows
  pub parts : knows.parts ≡ setup
  pub book : knows.trail.book ≡ history

-- what was seen is legal, and the reader knows of this court and the same history
pub record HasSeen (setup : CourtSetup) (trail : TrailView) (known : Option Known) : Type 0 where
  pub knows_of : KnowsOf trail.book setup known
  pub legal : is_legal (docket_rules setup) trail.log ≡ true

-- the seat has seen no less than before
pub record Looks (setup : CourtSetup) (before after : TrailView) (known : Option Known) : Type 0 where
  pub seen : HasSeen setup after known
  pub later : IsBeginning before after

-- a draft of this clerk, prepared on this history, with a place for the call that it may become
pub record IsOwn (setup : CourtSetup) (seen : List (Entry Command Answer)) (number : ℕ) (calls capacity : ℕ) (d : DocketDraft) : Type 0 where
  pub prepared : IsPrepared (docket_rules setup) seen d
  pub clerk : d.clerk ≡ number
  pub room : calls < capacity

-- what a seat keeps between two calls: it knows its court; it has seen a beginning of the office's history; its calls are entries of that
-- beginning, and are counted in its share of the ledger
pub record IsSeat (history : Book) (setup court : CourtSetup) (trail : TrailView) (reader : Option (Option Known)) (parts amount number : ℕ) (mine : List ℕ) (capacity : ℕ) (draft : Option DocketDraft) : Type 0 where
  pub book : trail.book ≡ history
  pub court_is : court ≡ setup
  pub known : Option Known
  pub there : reader ≡ Some known
  pub seen : HasSeen setup trail known
  pub one_part : parts ≡ 1
  pub counted : amount ≡ length mine
  pub within : Within mine (places_of number trail.log)
  pub own : IfSome draft (IsOwn setup trail.log number (length mine) capacity)

-- what a seat leaves: what it had seen, and its calls, counted in its share
pub record IsTally (history : Book) (setup : CourtSetup) (trail : TrailView) (parts amount number : ℕ) (mine : List ℕ) : Type 0 where
  pub book : trail.book ≡ history
  pub legal : is_legal (docket_rules setup) trail.log ≡ true
  pub one_part : parts ≡ 1
  pub counted : amount ≡ length mine
  pub within : Within mine (places_of number trail.log)
