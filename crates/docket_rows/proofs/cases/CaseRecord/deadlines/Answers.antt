use Rattle.std.proofs.Common.{length, sym, ap, ◌∙◌}
use Rattle.docket_rows.specs.Cases.{CaseRecordView}
use Rattle.docket_rows.proofs.NumberedLemmas.{length-numbered_deadlines}
use Rattle.docket_rows.proofs.cases.CaseRecord.deadlines.Goals as goal

pub returns-clause-count : goal.returns-clause-count
returns-clause-count c =
    ap length c.deref.ensures.value ∙ sym (length-numbered_deadlines _ 1) ∙ ap (λ (v : CaseRecordView). length v.deadlines) c.self.view_is
