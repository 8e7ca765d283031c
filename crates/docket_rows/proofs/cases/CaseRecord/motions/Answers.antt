use Rattle.std.proofs.Common.{length, sym, ap, ◌∙◌}
use Rattle.docket_rows.specs.Cases.{CaseRecordView}
use Rattle.docket_rows.proofs.NumberedLemmas.{length-numbered_motions}
use Rattle.docket_rows.proofs.cases.CaseRecord.motions.Goals as goal

pub returns-clause-count : goal.returns-clause-count
returns-clause-count c =
    ap length c.deref.ensures.value ∙ sym (length-numbered_motions _ 1) ∙ ap (λ (v : CaseRecordView). length v.motions) c.self.view_is
