use Rattle.std.proofs.Common.{◌∙◌, List, Some, ap, subst, sym, take}
use Rattle.case_numbers.proofs.ApartLemmas.{one_name_more}
use Rattle.case_numbers.specs.Cases.{with_name}
use Rattle.case_numbers.specs.Laws.{AreApart}
use Rattle.case_numbers.specs.Number.{NameView}
use Rattle.case_numbers.specs.declared.names.NamedCase.{NamedCase}
use Rattle.case_numbers.proofs.names.Names.copy.Goals as goal

pub loop-case-preserved : goal.loop-case-preserved
loop-case-preserved c =
    let case = c.case-item.result in
    let i = c.loop-case.case-index in
    let apart = subst AreApart (sym c.cases-cases.ensures.cases) c.cases-cases.ensures.apart in
    c.in_ok-add.ensures.ok
    ∙ ap (λ (n : List NamedCase). with_name n case.number (Some c.in_ok-copy.field-0)) c.loop-case.invariant
    ∙ ap (λ (n : NameView). with_name (take i c.cases-cases.result.now) case.number (Some n)) c.in_ok-copy.ensures
    ∙ one_name_more c.cases-cases.result.now i case apart c.loop-case-test.true c.case-item.is
