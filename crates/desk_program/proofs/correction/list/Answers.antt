use Rattle.std.proofs.Common.{◌≡◌, ◌∙◌, ℕ, List, length, subst, sym}
use Rattle.std.proofs.lemmas.Result.{on_ok_weaker}
use Rattle.std.specs.Io.KnownBytes.{Appends}
use Rattle.desk_journal.specs.Words.{batch_of}
use Rattle.program_streams.specs.Words.{watched}
use Rattle.desk_program.specs.Leave.{asking_between}
use Rattle.desk_program.proofs.ChangedLemmas.{none_between, some_between}
use Rattle.desk_program.proofs.CorrectionLemmas.{listed_if_ok}
use Rattle.desk_program.proofs.correction.list.Goals as goal

pub returns-in-Ok-clause-listed : goal.returns-in-Ok-clause-listed
returns-in-Ok-clause-listed g c = λ after_is.
    let kept : List (List ℕ) = batch_of c.args.entries.now in
    let old = g.W.Write.contents (watched c.args.writer.now) in
    let new = g.W.Write.contents (watched c.write_listing.new.writer) in
    let rows = asking_between c.args.now.now c.args.after.now kept in
    let many : c.in-Ok.field-0.count ≡ length rows = c.in-Ok.ensures.count after_is in
    let text = c.deref.ensures.value ∙ c.in-Ok.ensures.text after_is in
    listed_if_ok c.write_listing.result c.args.now.now c.args.after.now kept c.args.kind c.args.accept old new
    (on_ok_weaker c.write_listing.result (λ written. subst (λ (l : List ℕ). Appends old new l) text written) c.write_listing.ensures.written)
    (λ none. on_ok_weaker c.write_listing.result (λ zero. none_between rows (sym many ∙ zero)) (c.write_listing.ensures.without_leave none))

pub returns-in-Ok-clause-differs : goal.returns-in-Ok-clause-differs
returns-in-Ok-clause-differs g c = λ count after_is is.
    let kept : List (List ℕ) = batch_of c.args.entries.now in
    let old = g.W.Write.contents (watched c.args.writer.now) in
    let new = g.W.Write.contents (watched c.write_listing.new.writer) in
    let rows = asking_between c.args.now.now c.args.after.now kept in
    let many : c.in-Ok.field-0.count ≡ length rows = c.in-Ok.ensures.count after_is in
    let text = c.deref.ensures.value ∙ c.in-Ok.ensures.text after_is in
    let (same, some, written) = c.write_listing.ensures.differs count is in
    record {
      written = subst (λ (l : List ℕ). Appends old new l) text written;
      count_is = same ∙ many;
      some = some_between rows c.in-Ok.field-0.count many some;
    }
