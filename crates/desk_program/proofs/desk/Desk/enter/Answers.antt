use Rattle.std.proofs.Common.{refl}
use Rattle.std.proofs.lemmas.Result.{on_ok_weaker}
use Rattle.desk_journal.specs.Words.{IsKept}
use Rattle.desk_session.specs.Words.{IsServed, lines_of}
use Rattle.desk_entries.specs.Words.{IsReadyAt}
use Rattle.program_streams.specs.Words.{watched}
use Rattle.desk_program.specs.Desk.{answers_at, leaves_at, standing_at}
use Rattle.desk_program.proofs.DeskLemmas.{promised_docket, served_docket, some_weaker}
use Rattle.desk_program.proofs.desk.Desk.enter.Goals as goal

pub returns-clause-promised : goal.returns-clause-promised
returns-clause-promised g c = λ kept keeps.
    let (bytes, consumed, promised) = c.serve.ensures.promised kept keeps.kept keeps.docketed.stands in
    (bytes, consumed, promised_docket g.D.Disk c.args.self.now c.args.self.now kept keeps (lines_of bytes) _ _ _ _ promised)

pub returns-clause-served : goal.returns-clause-served
returns-clause-served g c = λ kept keeps.
    let under = standing_at c.args.self.now in
    let before = g.W.Write.contents (watched c.args.writer.now) in
    let after = g.W.Write.contents (watched c.serve.new.writer) in
    on_ok_weaker c.serve.result
    (λ served. some_weaker (g.R.Read.remaining (watched c.args.reader.now))
    (λ input. IsServed (leaves_at c.args.self.now) (answers_at c.args.self.now) (λ entries. IsKept g.D.Disk entries c.serve.new.journal) (IsReadyAt under c.serve.new.register.register) kept (lines_of input) before after) _
    (λ input all. served_docket g.D.Disk c.args.self.now _ kept keeps refl (lines_of input) before after all) served)
    (c.serve.ensures.served kept keeps.kept keeps.docketed.stands)

pub returns-clause-tally : goal.returns-clause-tally
returns-clause-tally g c = λ kept keeps. c.serve.ensures.tally kept keeps.kept keeps.docketed.stands
