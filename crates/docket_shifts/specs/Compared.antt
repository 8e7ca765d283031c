-- Two dockets that are compared, as contracts see them.
use Rattle.std.specs.Prelude.{ℕ, List}
use Rattle.case_numbers.specs.declared.names.NamedCase.{NamedCase}
use Rattle.court_days.specs.Words.{CourtView}
use Rattle.docket_rows.specs.declared.query.Query.TheVariants as query
use Rattle.docket_rows.specs.declared.view.View.{View}
use Rattle.docket_rows.specs.Words.{Rows, setup_of, view_of}
use Rattle.docket_core.specs.Words.{DocketView}
use Rattle.desk_numbers.specs.declared.moved.Moved.{Moved}
use Rattle.desk_numbers.specs.Words.{numbered_view}

-- a docket with its court, what isn't at the place of its number, and the cases that have names
pub record ComparedView : Type 0 where
  pub court : CourtView
  pub docket : DocketView
  pub moved : List Moved
  pub named : List NamedCase

-- what is docketed, with the same
pub record ShownRows : Type 0 where
  pub court : CourtView
  pub docketed : Rows
  pub moved : List Moved
  pub named : List NamedCase

-- a docket that stands for these rows
abbrev pub rows_shown : ComparedView → (docketed : Rows) → ShownRows
rows_shown c docketed = record { court = c.court; docketed = docketed; moved = c.moved; named = c.named }

-- the sheet of a case, by the numbers of its deadlines and motions
abbrev pub sheet_in : ShownRows → (case : ℕ) → View
sheet_in shown case = numbered_view shown.moved (view_of (setup_of shown.court) shown.docketed (query.Sheet case))
