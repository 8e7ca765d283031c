use Rattle.std.proofs.Common.{◌∙◌, ◌<◌, ℕ, List, Err, ap, length, refl, sym, arith}
use Rattle.desk_journal.specs.Words.{batch_of}
use Rattle.desk_entries.specs.Words.{most_entries}
use Rattle.desk_entries.proofs.CallerLemmas.{length_batch}
use Rattle.desk_program.proofs.FaultLemmas.{never_differs, same_fault}
use Rattle.desk_program.specs.declared.faults.correcting.CorrectionFault.{CorrectionFault}
use Rattle.desk_program.specs.declared.faults.correcting.CorrectionFault.TheVariants.{Differs}
use Rattle.desk_program.proofs.desk.Desk.change.Goals as goal

pub returns-in-Ok-take_file-clause-taken : goal.returns-in-Ok-take_file-clause-taken
returns-in-Ok-take_file-clause-taken g c = λ keeps.
    let entries : List (List ℕ) = batch_of c.args.entries.now in
    let short : length entries < most_entries = omega (arith, c.if-entries.false, length_batch c.args.entries.now) in
    let taken = c.in-Ok-take_file.ensures.kept entries keeps c.in-Ok.ensures.court (c.in-Ok.ensures.corrections entries keeps) c.in-Ok-reviewed.ensures.stands short in
    record {
      then = c.in-Ok.standing;
      changed = record { court = c.in-Ok.ensures.court; corrections = c.in-Ok.ensures.corrections entries keeps };
      listed = c.in-Ok-reviewed.ensures.listed;
      entry = taken.0;
      is_file = taken.1;
      says = taken.2;
      keeps = taken.3;
      history = taken.4;
    }

pub returns-in-Ok-take_file-clause-crash : goal.returns-in-Ok-take_file-clause-crash
returns-in-Ok-take_file-clause-crash g c = λ keeps x left. c.take_file.ensures.crash (batch_of c.args.entries.now) keeps x left

pub returns-in-Err-take_file-clause-refused : goal.returns-in-Err-take_file-clause-refused
returns-in-Err-take_file-clause-refused g c = λ count keeps is. absurd (never_differs c.in-Err-take_file.fault count (sym c.from.ensures ∙ same_fault c.from.result (Differs count) is))

pub returns-in-Err-take_file-clause-crash : goal.returns-in-Err-take_file-clause-crash
returns-in-Err-take_file-clause-crash g c = λ keeps x left. c.take_file.ensures.crash (batch_of c.args.entries.now) keeps x left

pub returns-in-Err-reviewed-clause-refused : goal.returns-in-Err-reviewed-clause-refused
returns-in-Err-reviewed-clause-refused g c = λ count keeps is.
    let differs = same_fault c.in-Err-reviewed.fault (Differs count) is in (
      record {
        then = c.in-Ok.standing;
        changed = record { court = c.in-Ok.ensures.court; corrections = c.in-Ok.ensures.corrections (batch_of c.args.entries.now) keeps };
        listed = c.in-Err-reviewed.ensures.differs count (ap (λ (f : CorrectionFault). Err f) differs);
      },
      refl,
    )
