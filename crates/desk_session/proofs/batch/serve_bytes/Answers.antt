use Rattle.std.proofs.Common.{◌∙◌, inl, ℕ, List, ◌++◌, ap, subst}
use Rattle.std.specs.Io.KnownBytes.{Appends}
use Rattle.std.proofs.lemmas.Result.{err_from_is_err_and}
use Rattle.desk_journal.specs.Words.{batch_of}
use Rattle.program_streams.specs.Words.{watched}
use Rattle.desk_session.specs.Lines.{lines_from}
use Rattle.desk_session.specs.Taken.{left_by, told_to}
use Rattle.desk_session.proofs.FaultLemmas.{unpublished_stops}
use Rattle.desk_session.proofs.PromiseLemmas.{unanswered}
use Rattle.desk_session.proofs.batch.serve_bytes.Goals as goal

pub returns-in_err-gather-clause-promised : goal.returns-in_err-gather-clause-promised
returns-in_err-gather-clause-promised g c = λ kept keeps stands.
    unanswered (g.O.Register.leaves c.args.setup.now) (g.O.Register.answers c.args.setup.now) kept (lines_from c.args.begun.now.items c.args.bytes.now) _ _ _
    (λ file left. inl (g.met.K.Keeper.rest c.args.keeper.now kept keeps file left))

pub returns-in_err-publish-clause-fault : goal.returns-in_err-publish-clause-fault
returns-in_err-publish-clause-fault g c =
    let p = err_from_is_err_and c.from_residual-in_err-publish.result c.from_residual-in_err-publish.ensures.1 in
    rw (p.1, p.2) (unpublished_stops _ c.args.begun.now.items c.args.bytes.now _ c.in_err-publish.ensures.fault)

pub returns-in_err-publish-clause-promised : goal.returns-in_err-publish-clause-promised
returns-in_err-publish-clause-promised g c = λ kept keeps stands.
    let leaves = g.O.Register.leaves c.args.setup.now in
    let answers = g.O.Register.answers c.args.setup.now in
    let lines = lines_from c.args.begun.now.items c.args.bytes.now in
    let taken = c.in_ok-gather.ensures.taken kept stands in
    let batch_is = ap batch_of c.deref.ensures.value ∙ taken.left ∙ ap (λ l. batch_of l ++ left_by leaves kept lines) c.new-batch.ensures.items in
    let text_is = c.deref-2.ensures.value ∙ taken.told ∙ ap (λ l. l ++ told_to leaves answers kept lines) c.new-text.ensures.items in
    c.publish.ensures.promised leaves answers kept lines keeps batch_is text_is

pub returns-clause-promised : goal.returns-clause-promised
returns-clause-promised g c = λ kept keeps stands.
    let leaves = g.O.Register.leaves c.args.setup.now in
    let answers = g.O.Register.answers c.args.setup.now in
    let lines = lines_from c.args.begun.now.items c.args.bytes.now in
    let taken = c.in_ok-gather.ensures.taken kept stands in
    let batch_is = ap batch_of c.deref.ensures.value ∙ taken.left ∙ ap (λ l. batch_of l ++ left_by leaves kept lines) c.new-batch.ensures.items in
    let text_is = c.deref-2.ensures.value ∙ taken.told ∙ ap (λ l. l ++ told_to leaves answers kept lines) c.new-text.ensures.items in
    c.publish.ensures.promised leaves answers kept lines keeps batch_is text_is

pub returns-clause-served : goal.returns-clause-served
returns-clause-served g c = λ kept keeps stands.
    let leaves = g.O.Register.leaves c.args.setup.now in
    let answers = g.O.Register.answers c.args.setup.now in
    let lines = lines_from c.args.begun.now.items c.args.bytes.now in
    let taken = c.in_ok-gather.ensures.taken kept stands in
    let batch_is = ap batch_of c.deref.ensures.value ∙ taken.left ∙ ap (λ l. batch_of l ++ left_by leaves kept lines) c.new-batch.ensures.items in
    let text_is = c.deref-2.ensures.value ∙ taken.told ∙ ap (λ l. l ++ told_to leaves answers kept lines) c.new-text.ensures.items in
    record {
      keeps = subst (λ (more : List (List ℕ)). g.K.Keeper.keeps c.publish.new.keeper (kept ++ more)) batch_is (c.in_ok-publish.ensures.kept kept keeps);
      stands = taken.stands;
      told = subst (Appends (g.W.Write.contents (watched c.args.writer.now)) (g.W.Write.contents (watched c.publish.new.writer))) text_is c.in_ok-publish.ensures.told;
    }
