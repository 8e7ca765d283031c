use Rattle.docket_laws.proofs.LawfulLemmas.SheetLemmas.{deadlines_on_sheet}
use Rattle.docket_laws.proofs.sheets.deadlines_are_shown_by_the_days_as_docketed.Goals as goal

pub returns : goal.returns
returns c = deadlines_on_sheet
