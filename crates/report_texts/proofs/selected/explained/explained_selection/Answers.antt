use Rattle.std.proofs.Common.{◌≡◌, ◌∙◌, List, map, ap, subst}
use Rattle.std.specs.Prelude.{IfOk}
use Rattle.court_clock.specs.Words.{ClockView}
use Rattle.court_days.specs.Words.{DaysView}
use Rattle.docket_rows.specs.declared.sheet.Sheet.{Sheet}
use Rattle.docket_rows.specs.Words.{parts_of, setup_of}
use Rattle.docket_core.specs.Words.{parts_held}
use Rattle.docket_laws.proofs.CallerLemmas.{hold_same}
use Rattle.docket_selection.specs.Words.{chosen_sheets}
use Rattle.docket_selection.specs.Explained.Words.{AreExplained}
use Rattle.desk_numbers.specs.Words.{numbered_sheet}
use Rattle.report_texts.specs.Labels.{LabelsView}
use Rattle.report_texts.proofs.selected.explained.explained_selection.Goals as goal

pub returns : goal.returns
unfolding parts_of
returns c = λ docketed stands.
    let choice = c.args.choice.now in
    let labels = c.args.labels.now in
    let moved : c.labels.inside.moved.now ≡ labels.moved = ap (λ (l : LabelsView). l.moved) c.labels.view_is in
    let doubtful : c.labels.inside.doubtful.now ≡ labels.doubtful = ap (λ (l : LabelsView). l.doubtful) c.labels.view_is in
    let numbers = map (numbered_sheet labels.moved) in
    let held : (parts_held c.args.docket.now).days ≡ docketed.days = (hold_same (parts_held c.args.docket.now) (parts_of docketed) stands).days in
    let numbered = rw moved at c.in_ok-sheets.ensures docketed stands ∙ ap (λ setup. numbers (chosen_sheets setup docketed choice)) c.requires.court in
    let by_sheets = subst (λ (ss : List Sheet). IfOk c.explained_sheets.result (λ list. AreExplained c.days.result.now c.clock.result.now labels.doubtful ss list.items)) numbered (rw doubtful at c.explained_sheets.ensures) in
    let by_clock = subst (λ (clock : ClockView). IfOk c.explained_sheets.result (λ list. AreExplained c.days.result.now clock labels.doubtful (numbers (chosen_sheets (setup_of c.args.court.now) docketed choice)) list.items)) c.clock.ensures by_sheets in
    subst (λ (days : DaysView). IfOk c.explained_sheets.result (λ list. AreExplained days c.args.court.now.clock labels.doubtful (numbers (chosen_sheets (setup_of c.args.court.now) docketed choice)) list.items)) (c.days.ensures ∙ held) by_clock
