use Rattle.std.proofs.Common.{inl}
use Rattle.desk_journal.specs.Words.{KeepsStamps, stamp_of}
use Rattle.desk_journal.proofs.CallerLemmas.{rest_kept}
use Rattle.desk_session.specs.Lines.{lines_of}
use Rattle.desk_session.proofs.PromiseLemmas.{unanswered}
use Rattle.desk_session.proofs.StampedLemmas.{stamped_none}
use Rattle.desk_session.proofs.together.serve_together.Goals as goal

pub returns-in_err-stopped-clause-promised : goal.returns-in_err-stopped-clause-promised
returns-in_err-stopped-clause-promised g c = λ kept keeps stands.
    unanswered (g.O.Register.leaves c.args.setup.now) (g.O.Register.answers c.args.setup.now) kept (lines_of c.args.input.now) _ _ _
    (λ file left. inl (rest_kept g.D.Disk c.args.journal.now kept keeps file left))

pub returns-in-Some-clause-promised : goal.returns-in-Some-clause-promised
returns-in-Some-clause-promised g c = λ kept keeps stands.
    unanswered (g.O.Register.leaves c.args.setup.now) (g.O.Register.answers c.args.setup.now) kept (lines_of c.args.input.now) _ _ _
    (λ file left. inl (rest_kept g.D.Disk c.args.journal.now kept keeps file left))

pub returns-in-Some-clause-stamped : goal.returns-in-Some-clause-stamped
returns-in-Some-clause-stamped g c = λ stamps has.
    stamped_none (stamp_of c.args.journal.now).account (λ after. KeepsStamps g.D.Disk after c.args.journal.now) stamps has
