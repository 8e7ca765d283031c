use Rattle.std.proofs.Common.{◌∙◌, ◌<◌, ℕ, List, Err, ap, length, refl, sym, subst, arith}
use Rattle.desk_journal.specs.Words.{batch_of}
use Rattle.program_streams.specs.Words.{watched}
use Rattle.desk_entries.specs.Words.{most_entries, unsaid_by}
use Rattle.desk_entries.proofs.CallerLemmas.{length_batch}
use Rattle.desk_program.specs.declared.entry_kind.EntryKind.{EntryKind}
use Rattle.desk_program.specs.Correction.{IsListed, IsOnlyListed}
use Rattle.desk_program.specs.Desk.{standing_at}
use Rattle.desk_program.proofs.DeskLemmas.{one_note}
use Rattle.desk_program.proofs.FaultLemmas.{never_differs, same_untaken}
use Rattle.desk_program.specs.declared.faults.correcting.CorrectionFault.{CorrectionFault}
use Rattle.desk_program.specs.declared.faults.correcting.CorrectionFault.TheVariants.{Differs}
use Rattle.desk_program.proofs.desk.Desk.correct_row.Goals as goal

pub returns-in-Ok-take_row_note-clause-corrected : goal.returns-in-Ok-take_row_note-clause-corrected
returns-in-Ok-take_row_note-clause-corrected g c = λ keeps.
    let entries : List (List ℕ) = batch_of c.args.entries.now in
    let old = g.W.Write.contents (watched c.args.writer.now) in
    let new = g.W.Write.contents (watched c.reviewed.new.writer) in
    let short : length entries < most_entries = omega (arith, c.if-entries.false, length_batch c.args.entries.now) in
    let is = sym (c.in-Ok.ensures keeps) ∙ c.in-Ok-found.is in
    let corrections = c.in-Ok-standing_after.ensures.corrections keeps in
    let taken = c.in-Ok-take_row_note.ensures.kept entries c.args.done c.args.row keeps is c.in-Ok-standing_after.ensures.court corrections c.in-Ok-reviewed.ensures.stands short in
    record {
      note = c.in-Ok-found.note;
      then = c.in-Ok-standing_after.standing;
      corrected = record { note_is = is; court = c.in-Ok-standing_after.ensures.court; corrections = corrections };
      listed = subst (λ (k : EntryKind). IsListed (standing_at c.args.self.now) c.in-Ok-standing_after.standing entries k c.args.accept old new) c.kind_of_note-kind.ensures c.in-Ok-reviewed.ensures.listed;
      keeps = taken.0;
      history = taken.1;
    }

pub returns-in-Ok-take_row_note-clause-crash : goal.returns-in-Ok-take_row_note-clause-crash
returns-in-Ok-take_row_note-clause-crash g c = λ keeps x left.
    one_note x c.args.done (standing_at c.args.self.now) (batch_of c.args.entries.now) c.args.row c.in-Ok-found.note (unsaid_by (standing_at c.args.self.now) (batch_of c.args.entries.now)) c.args.remark.now (sym (c.in-Ok.ensures keeps) ∙ c.in-Ok-found.is) (c.take_row_note.ensures.crash (batch_of c.args.entries.now) keeps x left)

pub returns-in-Err-take_row_note-clause-refused : goal.returns-in-Err-take_row_note-clause-refused
returns-in-Err-take_row_note-clause-refused g c = λ count keeps is. absurd (never_differs c.in-Err-take_row_note.fault count (sym c.from.ensures ∙ same_untaken c.from.result (Differs count) is))

pub returns-in-Err-take_row_note-clause-crash : goal.returns-in-Err-take_row_note-clause-crash
returns-in-Err-take_row_note-clause-crash g c = λ keeps x left.
    one_note x c.args.done (standing_at c.args.self.now) (batch_of c.args.entries.now) c.args.row c.in-Ok-found.note (unsaid_by (standing_at c.args.self.now) (batch_of c.args.entries.now)) c.args.remark.now (sym (c.in-Ok.ensures keeps) ∙ c.in-Ok-found.is) (c.take_row_note.ensures.crash (batch_of c.args.entries.now) keeps x left)

pub returns-in-Err-reviewed-clause-refused : goal.returns-in-Err-reviewed-clause-refused
returns-in-Err-reviewed-clause-refused g c = λ count keeps is.
    let differs = same_untaken c.in-Err-reviewed.fault (Differs count) is in
    let old = g.W.Write.contents (watched c.args.writer.now) in
    let new = g.W.Write.contents (watched c.reviewed.new.writer) in (
      record {
        note = c.in-Ok-found.note;
        then = c.in-Ok-standing_after.standing;
        corrected = record { note_is = sym (c.in-Ok.ensures keeps) ∙ c.in-Ok-found.is; court = c.in-Ok-standing_after.ensures.court; corrections = c.in-Ok-standing_after.ensures.corrections keeps };
        listed = subst (λ (k : EntryKind). IsOnlyListed (standing_at c.args.self.now) c.in-Ok-standing_after.standing (batch_of c.args.entries.now) k count old new) c.kind_of_note-kind.ensures (c.in-Err-reviewed.ensures.differs count (ap (λ (f : CorrectionFault). Err f) differs));
      },
      refl,
    )
