use Rattle.std.proofs.lemmas.Result.{on_ok_weaker}
use Rattle.desk_session.specs.Lines.{lines_of}
use Rattle.desk_session.proofs.PromiseLemmas.{all_told, front_of_all}
use Rattle.desk_session.proofs.asking.answer.Goals as goal

pub returns-clause-answered : goal.returns-clause-answered
returns-clause-answered g c = λ kept stands.
    on_ok_weaker c.serve_lines.result (all_told (g.O.Register.leaves c.args.setup.now) (g.O.Register.answers c.args.setup.now) _ _ kept lines_of _ _ _) (c.serve_lines.ensures.served kept tt stands)

pub returns-clause-front : goal.returns-clause-front
returns-clause-front g c = λ kept stands.
    let (bytes, read, promised) = c.serve_lines.ensures.promised kept tt stands in
    (bytes, read, front_of_all (g.O.Register.leaves c.args.setup.now) (g.O.Register.answers c.args.setup.now) kept _ _ _ _ _ promised)
