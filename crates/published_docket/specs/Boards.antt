-- What readers take.
use Rattle.std.specs.Prelude.{◌≡◌, true, List}
use Rattle.docket_rows.specs.Words.{CourtSetup}
use Rattle.versioned_steps.specs.Words.{is_legal}
use Rattle.shared_docket.specs.Words.{docket_rules}
use Rattle.published_docket.specs.declared.known.Known.{Known}
use Rattle.published_docket.specs.declared.cell.Cell.{Cell}
use Rattle.published_docket.specs.Trails.{TrailView}
use Rattle.published_docket.specs.Cells.{IsReplayed, IsSmall}

-- whose docket it is, its history so far, and the cells of its parts
pub record BoardView : Type 0 where
  pub parts : CourtSetup
  pub trail : TrailView
  pub cells : List Cell

-- without the cells
abbrev pub known_of : BoardView → Known
known_of x = record { parts = x.parts; trail = x.trail }

-- the history is legal, and the cells hold the parts after it
pub record IsShown (x : BoardView) : Type 0 where
  pub small : IsSmall x.parts
  pub legal : is_legal (docket_rules x.parts) x.trail.log ≡ true
  pub cells : IsReplayed x.parts x.trail.log x.cells
