-- What holds of a docket that clerks share after each step.
use Rattle.std.proofs.Common.{ℕ, List, sym, ◌∙◌}
use Rattle.docket_rows.specs.declared.answer.Answer.{Answer}
use Rattle.docket_rows.specs.declared.command.Command.{Command}
use Rattle.docket_rows.specs.declared.query.Query.TheVariants as query
use Rattle.docket_rows.specs.Words.{CourtSetup, Rows, parts_of}
use Rattle.docket_laws.specs.Words.{SheetShowsDeadlines}
use Rattle.docket_laws.proofs.CallerLemmas.{same_view}
use Rattle.versioned_steps.specs.declared.entry.Entry.{Entry}
use Rattle.shared_docket.specs.Always.{AlwaysHolds, Holds, HoldsOfLegal, IsOneDocket, ShowDeadlines}
use Rattle.shared_docket.specs.Sequential.{rows_of}
use Rattle.shared_docket.proofs.SequentialLemmas.{holds_after, legal_sequential, legal_values}

-- what holds of every legal history always holds
pub always : (claim : CourtSetup → List (Entry Command Answer) → Type 0) → HoldsOfLegal claim → AlwaysHolds claim
always claim of_legal setup clerks steps outcomes end run made = holds_after setup (claim setup) (of_legal setup) clerks steps outcomes end run made

pub holds : (claim : CourtSetup → List (Entry Command Answer) → Type 0) → HoldsOfLegal claim → Holds claim
holds claim of_legal = (of_legal, always claim of_legal)

pub one_docket : HoldsOfLegal IsOneDocket
one_docket setup history legal = record { answers = legal_sequential setup history legal; parts = legal_values setup history legal }

-- sheets show the deadlines of the rows, by the parts of the rows
pub deadlines_shown : ((setup : CourtSetup) (rows : Rows) (case : ℕ) → SheetShowsDeadlines setup rows case) → HoldsOfLegal ShowDeadlines
deadlines_shown of_rows setup history legal parts are case sheet seen =
    let rows = rows_of setup history in
    of_rows setup rows case sheet (sym (same_view setup parts (parts_of rows) (query.Sheet case) (λ part. are part ∙ legal_values setup history legal part)) ∙ seen)
