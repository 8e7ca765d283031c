use Rattle.std.proofs.Common.{◌≡◌, ◌∙◌, ◌++◌, ℕ, List, map, ap, ap₂, append_assoc}
use Rattle.std.specs.List.{flat_map}
use Rattle.court_days.specs.Words.{DaysView}
use Rattle.docket_rows.specs.declared.sheet.Sheet.{Sheet}
use Rattle.docket_rows.specs.Words.{parts_of, setup_of}
use Rattle.docket_core.specs.Words.{parts_held}
use Rattle.docket_laws.proofs.CallerLemmas.{hold_same}
use Rattle.docket_selection.specs.Words.{open_sheets}
use Rattle.desk_numbers.specs.Words.{numbered_sheet}
use Rattle.report_texts.specs.Words.{LabelsView}
use Rattle.report_sql.specs.Rows.{numbered}
use Rattle.report_sql.specs.Script.{outage_row, sheet_rows}
use Rattle.report_sql.proofs.sheets.push_docketed.Goals as goal

pub returns : goal.returns
unfolding parts_of
returns c = λ docketed stands.
    let court = c.args.court.now in
    let before = c.args.out.now in
    let held : (parts_held c.args.docket.now).days ≡ docketed.days = (hold_same (parts_held c.args.docket.now) (parts_of docketed) stands).days in
    let outages : c.outages.result.now ≡ docketed.days.outages = c.outages.ensures ∙ ap (λ (days : DaysView). days.outages) (c.days.ensures ∙ held) in
    let labels = c.args.labels.now in
    let moved : c.labels.inside.moved.now ≡ labels.moved = ap (λ (l : LabelsView). l.moved) c.labels.view_is in
    let numbers = map (numbered_sheet labels.moved) in
    let sheets : c.deref.result.now ≡ numbers (open_sheets (setup_of court) docketed) =
    c.deref.ensures.value ∙ rw moved at c.in_ok-sheets.ensures docketed stands ∙ ap (λ setup. numbers (open_sheets setup docketed)) c.requires.court in
    let cases : List Sheet → List ℕ = λ ss. flat_map (sheet_rows court labels) ss in
    c.in_ok-push_sheets.ensures
    ∙ ap (λ t. t ++ cases c.deref.result.now) c.in_ok-push_outages.ensures
    ∙ append_assoc before (numbered outage_row 1 c.outages.result.now) (cases c.deref.result.now)
    ∙ ap₂ (λ os ss. before ++ (numbered outage_row 1 os ++ cases ss)) outages sheets
