use Rattle.std.proofs.Common.{◌∙◌, ap, subst}
use Rattle.desk_session.specs.Words.{lines_of}
use Rattle.desk_program.proofs.CallerLemmas.{unanswered_docket}
use Rattle.program_streams.specs.Words.{IsGiven, watched}
use Rattle.docket.proofs.SessionLemmas.{together_promised}
use Rattle.docket.proofs.keep.kept_together.Goals as goal

pub returns-in-Ok-clause-promised : goal.returns-in-Ok-clause-promised
returns-in-Ok-clause-promised g c = λ kept keeps.
    together_promised g.D.Disk g.W.Write.contents c.args.desk.now c.enter_together.new.self c.args.keep_refused kept c.args.rows.now (watched c.new-said.result).items (watched c.enter_together.new.writer).items c.args.writer.now c.write_all.new.writer keeps
    (ap (λ v. v.items) c.new-said.ensures.inner ∙ c.new.ensures.items) (c.in-Ok.ensures.kept kept keeps)
    (subst (IsGiven g.W.Write.contents c.args.writer.now c.write_all.new.writer) (c.deref.ensures.value ∙ ap (λ v. v.items) c.inner.ensures) c.write_all.ensures.given)

pub returns-then-is_err-clause-promised : goal.returns-then-is_err-clause-promised
returns-then-is_err-clause-promised g c = λ kept keeps.
    together_promised g.D.Disk g.W.Write.contents c.args.desk.now c.enter_together.new.self c.args.keep_refused kept c.args.rows.now (watched c.new-said.result).items (watched c.enter_together.new.writer).items c.args.writer.now c.write_all.new.writer keeps
    (ap (λ v. v.items) c.new-said.ensures.inner ∙ c.new.ensures.items) (c.in-Ok.ensures.kept kept keeps)
    (subst (IsGiven g.W.Write.contents c.args.writer.now c.write_all.new.writer) (c.deref.ensures.value ∙ ap (λ v. v.items) c.inner.ensures) c.write_all.ensures.given)

pub returns-in_err-told_refusal-in-Err-clause-promised : goal.returns-in_err-told_refusal-in-Err-clause-promised
returns-in_err-told_refusal-in-Err-clause-promised g c = λ kept keeps.
    (lines_of c.args.rows.now, unanswered_docket g.D.Disk c.args.desk.now c.args.desk.now kept (lines_of c.args.rows.now) (g.W.Write.contents (watched c.args.writer.now)) _ _ (c.enter_together.ensures.crash kept keeps))

pub returns-in-Err-Unkept-Write-clause-promised : goal.returns-in-Err-Unkept-Write-clause-promised
returns-in-Err-Unkept-Write-clause-promised g c = λ kept keeps.
    (lines_of c.args.rows.now, unanswered_docket g.D.Disk c.args.desk.now c.args.desk.now kept (lines_of c.args.rows.now) (g.W.Write.contents (watched c.args.writer.now)) _ _ (c.enter_together.ensures.crash kept keeps))

pub returns-clause-promised : goal.returns-clause-promised
returns-clause-promised g c = λ kept keeps.
    (lines_of c.args.rows.now, unanswered_docket g.D.Disk c.args.desk.now c.args.desk.now kept (lines_of c.args.rows.now) (g.W.Write.contents (watched c.args.writer.now)) _ _ (c.enter_together.ensures.crash kept keeps))
