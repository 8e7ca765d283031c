use Rattle.std.proofs.Common.{◌≡◌, [], List, length, subst, sym, arith}
use Rattle.std.proofs.lemmas.List.{nil_from_length}
use Rattle.docket_selection.specs.declared.explained.explained.ExplainedSheet.{ExplainedSheet}
use Rattle.docket_selection.specs.Explained.Explained.{AreAlike, IsSheetExplained}
use Rattle.docket_selection.proofs.ExplainedLemmas.AlikeLemmas.{AreLeft, all_left, none_left, one_less}
use Rattle.docket_selection.proofs.explained.explained.explained_by.Goals as goal

pub loop-sheet-init : goal.loop-sheet-init
loop-sheet-init c =
    let R = IsSheetExplained c.args.days.now c.args.clock.now in
    subst (λ (done : List ExplainedSheet). AreLeft R c.args.sheets.items c.args.sheets.items done) (sym c.new-list.ensures.items) (all_left R c.args.sheets.items)

pub loop-sheet-preserved : goal.loop-sheet-preserved
loop-sheet-preserved c =
    let R = IsSheetExplained c.args.days.now c.args.clock.now in
    subst (λ (done : List ExplainedSheet). AreLeft R c.args.sheets.items c.pop.new.self.items done) (sym c.in_ok-push.ensures.items)
    (one_less R c.args.sheets.items c.loop-sheet.left.items c.pop.new.self.items c.loop-sheet.list.items c.in-Some.sheet c.in_ok-explained_sheet.field-0 c.in-Some.ensures.items c.in_ok-explained_sheet.ensures c.loop-sheet.invariant)

pub returns : goal.returns
returns c =
    let R = IsSheetExplained c.args.days.now c.args.clock.now in
    let zero : length c.loop-sheet.left.items ≡ 0 = omega (arith, c.in_default.ensures.cases) in
    let none : c.loop-sheet.left.items ≡ [] = nil_from_length c.loop-sheet.left.items zero in
    subst (λ (done : List ExplainedSheet). AreAlike R c.args.sheets.items done) (sym c.reverse.ensures.items) (none_left R c.args.sheets.items c.loop-sheet.left.items c.loop-sheet.list.items none c.loop-sheet.invariant)
