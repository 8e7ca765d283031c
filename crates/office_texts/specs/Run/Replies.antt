-- What rows are answered, one after another.
use Rattle.std.specs.Prelude.{◌≡◌, List, [], ◌∷◌}
use Rattle.docket_rows.specs.Words.{CourtSetup, Rows, AreSound, step, view_of}
use Rattle.docket_core.specs.Words.{DocketView, StandsFor}
use Rattle.row_forms.specs.declared.row.Row.{Row}
use Rattle.row_forms.specs.declared.row.Work.{Work}
use Rattle.row_forms.specs.declared.row.Work.TheVariants.{Command, Query}
use Rattle.office_texts.specs.declared.run.reply.Reply.{Reply}
use Rattle.office_texts.specs.declared.run.reply.Reply.TheVariants.{Made, Viewed}

-- a command is answered as the step of the docket is, and a query with what it shows of the docket
abbrev pub reply_to : CourtSetup → (docketed : Rows) → Work → Reply
reply_to setup docketed (Command command) = Made (step setup docketed command).1
reply_to setup docketed (Query query) = Viewed (view_of setup docketed query)

-- what is docketed after a row: a query changes nothing
abbrev pub docketed_then : CourtSetup → (docketed : Rows) → Work → Rows
docketed_then setup docketed (Command command) = (step setup docketed command).0
docketed_then setup docketed (Query query) = docketed

-- what is docketed after some rows, from the first on
unfoldable pub docketed_after : CourtSetup → (docketed : Rows) → List Row → Rows
docketed_after setup docketed [] = docketed
docketed_after setup docketed (row ∷ rows) = docketed_after setup (docketed_then setup docketed row.work) rows

-- the docket of that court stands for what is docketed
pub record Holds (setup : CourtSetup) (d : DocketView) (docketed : Rows) : Type 0 where
  pub setup_is : d.setup ≡ setup
  pub sound : AreSound setup docketed
  pub stands : StandsFor d docketed
