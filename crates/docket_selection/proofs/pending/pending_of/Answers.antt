use Rattle.std.proofs.Common.{◌≡◌, ◌∙◌, ℕ, List, [], Option, ap, subst}
use Rattle.std.specs.Prelude.{IfOk}
use Rattle.std.specs.Option.{option_map_or}
use Rattle.docket_rows.specs.Words.{CaseRecordView, facts_in, parts_of, setup_of}
use Rattle.docket_core.specs.Words.{parts_held}
use Rattle.docket_laws.proofs.CallerLemmas.{hold_same}
use Rattle.docket_selection.specs.declared.pending.PendingItem.{PendingItem}
use Rattle.docket_selection.specs.Pending.{pending_among}
use Rattle.docket_selection.specs.Sheets.{open_sheets}
use Rattle.docket_selection.proofs.PendingLemmas.{among_same}
use Rattle.docket_selection.proofs.pending.pending_of.Goals as goal

pub returns : goal.returns
returns c = λ docketed stands.
    let setup = setup_of c.args.court.now in
    let held = parts_held c.args.docket.now in
    let sheets : c.deref.result.now ≡ open_sheets setup docketed = c.deref.ensures.value ∙ c.in_ok-sheets.ensures docketed stands ∙ ap (λ s. open_sheets s docketed) c.requires.court in
    let facts : (case : ℕ) → facts_in held case ≡ facts_in (parts_of docketed) case = λ case. ap (λ (r : Option CaseRecordView). option_map_or (λ (k : CaseRecordView). k.facts) r []) ((hold_same held (parts_of docketed) stands).case case) in
    let listed : IfOk c.pending_among.result (λ list. list.items ≡ pending_among c.args.kind c.args.day (facts_in held) (open_sheets setup docketed) setup.judges) = rw (sheets, c.judges.ensures.value) at c.pending_among.ensures in
    subst (λ (items : List PendingItem). IfOk c.pending_among.result (λ list. list.items ≡ items)) (among_same c.args.kind c.args.day (facts_in held) (facts_in (parts_of docketed)) facts (open_sheets setup docketed) setup.judges) listed
