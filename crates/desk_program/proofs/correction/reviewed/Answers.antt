use Rattle.std.proofs.Common.{Err, ap}
use Rattle.desk_journal.specs.Words.{batch_of}
use Rattle.desk_program.specs.declared.faults.correcting.CorrectionFault.{CorrectionFault}
use Rattle.desk_program.specs.declared.faults.correcting.CorrectionFault.TheVariants.{Differs}
use Rattle.desk_program.specs.Inside.Correction.{IsReview}
use Rattle.desk_program.proofs.FaultLemmas.{same_fault}
use Rattle.desk_program.proofs.correction.reviewed.Goals as goal

pub returns-in-Ok-list-clause-listed : goal.returns-in-Ok-list-clause-listed
returns-in-Ok-list-clause-listed g c =
    let after_is : IsReview c.args.after.now (batch_of c.args.entries.now) c.in-Ok.review = record { stands = c.in-Ok.ensures.stands; changes = c.in-Ok.ensures.changes } in
    c.in-Ok-list.ensures.listed after_is

pub returns-in-Err-list-clause-differs : goal.returns-in-Err-list-clause-differs
returns-in-Err-list-clause-differs g c = λ count is.
    let after_is : IsReview c.args.after.now (batch_of c.args.entries.now) c.in-Ok.review = record { stands = c.in-Ok.ensures.stands; changes = c.in-Ok.ensures.changes } in
    c.in-Err-list.ensures.differs count after_is (ap (λ (f : CorrectionFault). Err f) (same_fault c.in-Err-list.fault (Differs count) is))
