-- What changes do to what is published.
use Rattle.std.specs.Prelude.{ℕ, List, [], ◌∷◌, ◌++◌, slice_set}
use Rattle.docket_rows.specs.declared.part.PartId.{PartId}
use Rattle.docket_rows.specs.declared.part.PartValue.{PartValue}
use Rattle.published_docket.specs.declared.change.BoardChange.{BoardChange}
use Rattle.published_docket.specs.declared.change.BoardChange.TheVariants.{Put, Grow}
use Rattle.published_docket.specs.declared.cell.Cell.{Cell}
use Rattle.published_docket.specs.Boards.{BoardView}
use Rattle.published_docket.specs.Cells.{cell_of}

abbrev pub applied_to : BoardView → BoardChange → BoardView
applied_to x (Put cell version value) = record x { cells = slice_set x.cells cell (record { version = version; value = value }) }
applied_to x (Grow trail) = record x { trail = trail }

-- the changes by which these parts have these values and this version, the last first: of two writes to one part the
-- first counts
abbrev pub puts_of : ℕ → List (PartId × PartValue) → List BoardChange
puts_of version [] = []
puts_of version (w ∷ ws) = puts_of version ws ++ Put (cell_of w.0) version w.1 ∷ []

-- the cells after them
abbrev pub put_all : ℕ → List (PartId × PartValue) → List Cell → List Cell
put_all version [] cells = cells
put_all version (w ∷ ws) cells = slice_set (put_all version ws cells) (cell_of w.0) (record { version = version; value = w.1 })
