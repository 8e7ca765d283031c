use Rattle.std.proofs.Common.{inr, ℕ, List, ◌++◌, subst}
use Rattle.std.specs.Prelude.{◌⊎◌}
use Rattle.std.specs.Io.KnownBytes.{Appends}
use Rattle.desk_journal.specs.Words.{StandsFor, batch_of}
use Rattle.program_streams.specs.Words.{AppendsFront, watched}
use Rattle.desk_session.proofs.PromiseLemmas.{answered, unanswered, whole_front}
use Rattle.desk_session.proofs.publish.publish.Goals as goal

pub returns-in_err-keep-clause-promised : goal.returns-in_err-keep-clause-promised
returns-in_err-keep-clause-promised g c = λ leaves answers kept lines keeps batch_is text_is.
    unanswered leaves answers kept lines _ _ _
    (λ file left. subst (λ (more : List (List ℕ)). StandsFor file kept ⊎ StandsFor file (kept ++ more)) batch_is (c.keep.ensures.crash kept keeps file left))

pub returns-clause-promised : goal.returns-clause-promised
returns-clause-promised g c = λ leaves answers kept lines keeps batch_is text_is.
    answered leaves answers kept lines _ _ _ _
    (whole_front leaves answers _ _ _ (subst (Appends (g.W.Write.contents (watched c.args.writer.now)) (g.W.Write.contents (watched c.write_all.new.writer))) text_is c.in-Ok.ensures.written))
    (λ working. subst (Appends (g.W.Write.contents (watched c.args.writer.now)) (g.W.Write.contents (watched c.write_all.new.writer))) text_is c.in-Ok.ensures.written)
    (λ file left. subst (λ (more : List (List ℕ)). StandsFor file (kept ++ more)) batch_is
    (g.met.K.Keeper.rest c.keep.new.self (kept ++ batch_of c.args.batch.now) (c.in_ok-keep.ensures.kept kept keeps) file left))

pub returns-in-Err-clause-promised : goal.returns-in-Err-clause-promised
returns-in-Err-clause-promised g c = λ leaves answers kept lines keeps batch_is text_is.
    answered leaves answers kept lines _ _ _ _
    (subst (AppendsFront (g.W.Write.contents (watched c.args.writer.now)) (g.W.Write.contents (watched c.write_all.new.writer))) text_is c.in-Err.ensures.front)
    (λ working. cc (c.in-Err.ensures.failed, working))
    (λ file left. subst (λ (more : List (List ℕ)). StandsFor file (kept ++ more)) batch_is
    (g.met.K.Keeper.rest c.keep.new.self (kept ++ batch_of c.args.batch.now) (c.in_ok-keep.ensures.kept kept keeps) file left))

pub returns-in_err-keep-clause-crash : goal.returns-in_err-keep-clause-crash
returns-in_err-keep-clause-crash g c = λ kept keeps file left. c.keep.ensures.crash kept keeps file left

pub returns-clause-crash : goal.returns-clause-crash
returns-clause-crash g c = λ kept keeps file left. inr (g.met.K.Keeper.rest c.keep.new.self (kept ++ batch_of c.args.batch.now) (c.in_ok-keep.ensures.kept kept keeps) file left)

pub returns-in-Err-clause-crash : goal.returns-in-Err-clause-crash
returns-in-Err-clause-crash g c = λ kept keeps file left. inr (g.met.K.Keeper.rest c.keep.new.self (kept ++ batch_of c.args.batch.now) (c.in_ok-keep.ensures.kept kept keeps) file left)
