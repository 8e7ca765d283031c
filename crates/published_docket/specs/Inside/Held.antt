-- What the one who publishes holds.
use Rattle.std.specs.Prelude.{◌≡◌, true, Bool, MatchBool, List, [], ◌∷◌, ◌++◌, length, fold, Option, Some}
use Rattle.logbook.specs.Pages.{Named}
use Rattle.docket_rows.specs.declared.part.PartId.{PartId}
use Rattle.docket_rows.specs.declared.part.PartValue.{PartValue}
use Rattle.docket_rows.specs.Words.{CourtSetup}
use Rattle.versioned_steps.specs.Words.{is_legal}
use Rattle.shared_docket.specs.Words.{docket_rules}
use Rattle.published_docket.specs.declared.change.BoardChange.{BoardChange}
use Rattle.published_docket.specs.declared.change.BoardChange.TheVariants.{Grow}
use Rattle.published_docket.specs.declared.known.Known.{Known}
use Rattle.published_docket.specs.Boards.{BoardView, known_of}
use Rattle.published_docket.specs.Changes.{applied_to, puts_of}
use Rattle.published_docket.specs.Counted.{head_of}
use Rattle.published_docket.specs.Published.{MayShow}
use Rattle.published_docket.specs.Cells.{IsSmall}
use Rattle.published_docket.specs.Trails.{TrailView}

-- what readers take, the changes that they don't see yet, and what the writer knows
pub record HeldView : Type 0 where
  pub shown : BoardView
  pub pending : List BoardChange
  pub known : Option Known

-- what readers take once they are shown what is pending, then these writes of the last entry, and the history as far as this
abbrev pub board_then : HeldView → List (PartId × PartValue) → TrailView → BoardView
board_then h owed trail = fold applied_to h.shown ((h.pending ++ puts_of (length trail.log) owed) ++ Grow trail ∷ [])

-- readers take the docket after this history, nothing more is owed to them, and the writer knows that
pub record AllShown (h : HeldView) (owed : List (PartId × PartValue)) (trail : TrailView) : Type 0 where
  pub none_pending : h.pending ≡ []
  pub none_owed : owed ≡ []
  pub known_is : h.known ≡ Some (known_of h.shown)
  pub trail_is : h.shown.trail ≡ trail

-- they take all of it, or they may be shown it
abbrev pub ShownOrOwed : (all : Bool) → HeldView → List (PartId × PartValue) → TrailView → Type 0
ShownOrOwed all h owed trail = MatchBool all (AllShown h owed trail) (MayShow h.shown (board_then h owed trail))

-- between two calls the writer is there, and readers see all of the history or are owed the rest; the word is that of the history,
-- which is legal
pub record Keeps (held : Option HeldView) (owed : List (PartId × PartValue)) (all : Bool) (head : Named) (parts : CourtSetup) (trail : TrailView) : Type 0 where
  pub held_is : HeldView
  pub there : held ≡ Some held_is
  pub same_parts : held_is.shown.parts ≡ parts
  pub shows : ShownOrOwed all held_is owed trail
  pub head_is : head ≡ head_of trail.book
  pub small : IsSmall parts
  pub legal : is_legal (docket_rules parts) trail.log ≡ true
