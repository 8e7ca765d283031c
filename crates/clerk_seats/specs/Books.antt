-- The one book of an office.
use Rattle.std.specs.Prelude.{◌≡◌, ℕ, List, length}
use Rattle.std.specs.declared.result.Result.{Result}
use Rattle.std.specs.declared.result.Result.TheVariants.{Ok, Err}
use Rattle.logbook.specs.Pages.{Book}
use Rattle.docket_rows.specs.declared.answer.Answer.{Answer}
use Rattle.docket_rows.specs.declared.command.Command.{Command}
use Rattle.docket_rows.specs.declared.part.PartId.{PartId}
use Rattle.docket_rows.specs.declared.part.PartValue.{PartValue}
use Rattle.docket_rows.specs.Words.{CourtSetup}
use Rattle.versioned_steps.specs.declared.entry.Entry.{Entry}
use Rattle.versioned_steps.specs.Words.{StoreView, Replays}
use Rattle.shared_docket.specs.Words.{docket_rules}
use Rattle.published_docket.specs.declared.known.Known.{Known}
use Rattle.published_docket.specs.Words.{trail_view}

-- the journal is what is published of this history and this court, the store has its parts, and each entry was counted once
pub record IsBook (history : Book) (setup : CourtSetup) (published : Known) (journal : List (Entry Command Answer)) (store : StoreView CourtSetup PartId PartValue) (total : ℕ) : Type 0 where
  pub published_is : published ≡ record { parts = setup; trail = trail_view history journal }
  pub owner : store.owner ≡ setup
  pub replays : Replays (docket_rules setup) journal store
  pub counted : total ≡ length journal

-- how many entries came of it
abbrev pub entries_of : {T E : Type 0} → Result T E → ℕ
entries_of (Ok done) = 1
entries_of (Err e) = 0
