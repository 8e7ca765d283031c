use Rattle.std.proofs.Common.{◌≡◌, ◌∙◌, ◌++◌, ℕ, List, ap}
use Rattle.court_days.specs.Words.{DaysView}
use Rattle.docket_rows.specs.Words.{parts_of}
use Rattle.docket_core.specs.Words.{parts_held}
use Rattle.docket_laws.proofs.CallerLemmas.{hold_same}
use Rattle.docket_selection.specs.declared.calendars.JudgeCalendar.{JudgeCalendar}
use Rattle.docket_selection.specs.declared.item.DueItem.{DueItem}
use Rattle.docket_selection.specs.declared.explained.explained.ExplainedSheet.{ExplainedSheet}
use Rattle.report_page.specs.Words.{page_text}
use Rattle.report_program.proofs.page.page_text.Goals as goal

pub returns : goal.returns
unfolding parts_of
returns c = λ docketed holds.
    let court = c.args.court.now in
    let labels = c.args.labels.now in
    let choice = c.args.choice.now in
    let items = c.in_ok-items.items.items in
    let sheets = c.in_ok-sheets.sheets.items in
    let held : (parts_held c.args.docket.now).days ≡ docketed.days = (hold_same (parts_held c.args.docket.now) (parts_of docketed) holds.stands).days in
    let shown = c.into_bytes.ensures ∙ c.in_ok-push_page.ensures ∙ ap (λ (old : List ℕ). old ++ page_text court c.days.result.now labels choice c.deref.result.now c.deref-2.result.now c.deref-3.result.now) c.new-page.ensures in
    let by_items = ap (λ (xs : List DueItem). page_text court c.days.result.now labels choice xs c.deref-2.result.now c.deref-3.result.now) c.deref.ensures.value in
    let by_sheets = ap (λ (xs : List ExplainedSheet). page_text court c.days.result.now labels choice items c.deref-2.result.now xs) c.deref-3.ensures.value in
    let by_days = ap (λ (days : DaysView). page_text court days labels choice items c.deref-2.result.now sheets) (c.days.ensures ∙ held) in
    let of_judges = ap (λ (calendars : List JudgeCalendar). page_text court docketed.days labels choice items calendars sheets) (c.deref-2.ensures.value ∙ c.in_ok-calendars.ensures docketed holds.stands) in
    record {
      list = items;
      due = c.in_ok-items.ensures docketed holds;
      sheets = sheets;
      explained = c.in_ok-sheets.ensures docketed holds.stands;
      page = shown ∙ by_items ∙ by_sheets ∙ by_days ∙ of_judges;
    }
