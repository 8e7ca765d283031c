use Rattle.std.proofs.Common.{◌≡◌, ◌∙◌, List, ap, subst}
use Rattle.std.specs.Prelude.{IfOk}
use Rattle.docket_rows.specs.Words.{parts_of, setup_of}
use Rattle.docket_core.specs.Words.{parts_held}
use Rattle.docket_laws.proofs.CallerLemmas.{hold_same}
use Rattle.docket_selection.specs.declared.item.DueItem.{DueItem}
use Rattle.docket_selection.specs.Due.{AreInOrder, all_due}
use Rattle.docket_selection.specs.Sheets.{open_sheets}
use Rattle.docket_selection.proofs.due.due_of.Goals as goal

pub returns : goal.returns
unfolding parts_of
returns c = λ docketed stands.
    let choice = c.args.choice.now in
    let setup = setup_of c.args.court.now in
    let days : c.days.result.now ≡ docketed.days = c.days.ensures ∙ (hold_same (parts_held c.args.docket.now) (parts_of docketed) stands).days in
    let sheets : c.deref.result.now ≡ open_sheets setup docketed = c.deref.ensures.value ∙ c.in_ok-sheets.ensures docketed stands ∙ ap (λ s. open_sheets s docketed) c.requires.court in
    let all : c.in_ok-items.items.items ≡ all_due setup docketed c.args.doubtful.now choice = rw (c.in_ok-days.ensures, days, c.clock.ensures, sheets) at c.in_ok-items.ensures in
    subst (λ (items : List DueItem). IfOk c.in_order.result (λ list. AreInOrder items list.items)) all c.in_order.ensures
