-- What rows change of what calendars show.
use Rattle.std.specs.Prelude.{ℕ, List, [], ◌∷◌, ◌++◌, Option, None, option_to_list}
use Rattle.docket_rows.specs.Words.{CourtSetup, Rows}
use Rattle.docket_selection.specs.declared.changes.change.RowChange.{RowChange}
use Rattle.docket_selection.specs.declared.item.DueItem.{DueItem}
use Rattle.docket_selection.specs.Changes.Words.{change_made}
use Rattle.row_forms.specs.declared.numbered.NumberedRow.{NumberedRow}
use Rattle.row_forms.specs.declared.row.Work.{Work}
use Rattle.row_forms.specs.declared.row.Work.TheVariants.{Command, Query}
use Rattle.office_texts.specs.declared.run.reply.Reply.{Reply}
use Rattle.office_texts.specs.declared.run.reply.Reply.TheVariants.{Made, Viewed}
use Rattle.office_texts.specs.Run.Words.{docketed_then, reply_to}
use Rattle.desk_numbers.specs.declared.given.Given.{Given}
use Rattle.report_program.specs.Lost.{lost_if_refused}

-- what the row of that number, which was so answered, changed, if anything
abbrev pub change_in : (number : ℕ) → Work → Reply → Option RowChange
change_in number (Command command) (Made answer) = change_made number command answer
change_in number (Command command) (Viewed view) = None
change_in number (Query query) reply = None

-- what comes of rows, of each by its reply
unfoldable pub come_of : {A : Type 0} → (NumberedRow → Reply → Option A) → CourtSetup → (docketed : Rows) → List NumberedRow → List A
come_of came setup docketed [] = []
come_of came setup docketed (n ∷ rows) =
    option_to_list (came n (reply_to setup docketed n.row.work)) ++ come_of came setup (docketed_then setup docketed n.row.work) rows

-- what rows change, each by its number
abbrev pub changes_made : CourtSetup → (docketed : Rows) → List NumberedRow → List RowChange
changes_made setup docketed rows = come_of (λ n reply. change_in n.number n.row.work reply) setup docketed rows

-- the deadlines that rows started which are refused now, where these are by row what rows gave
abbrev pub lost_made : List (Option Given) → CourtSetup → (docketed : Rows) → List NumberedRow → List DueItem
lost_made given setup docketed rows = come_of (lost_if_refused given) setup docketed rows
