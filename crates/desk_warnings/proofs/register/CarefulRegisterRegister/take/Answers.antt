use Rattle.std.proofs.Common.{◌≡◌, ◌∙◌, Bool, ap}
use Rattle.std.proofs.lemmas.Result.{IfOk-weaker, on_ok_weaker}
use Rattle.desk_journal.specs.Words.{batch_of}
use Rattle.desk_session.specs.Words.{unmarked}
use Rattle.desk_warnings.specs.Careful.{careful_outcome, whole_outcome}
use Rattle.desk_warnings.proofs.CarefulLemmas.{as_looked, came_looked}
use Rattle.desk_warnings.proofs.register.CarefulRegisterRegister.take.Goals as goal

pub returns-clause-taken : goal.returns-clause-taken
returns-clause-taken c = λ kept stands.
    let under = c.args.setup.now.standing in
    let held = c.args.setup.now.held_back in
    let line = c.args.line.now in
    on_ok_weaker c.take_whole.result
    (λ takes. as_looked under held c.held_for-held.result c.take_whole.new.self.register kept line c.unmarked-rest.result.now c.held_for-held.ensures (c.unmarked-rest.ensures ∙ ap (λ (m : Bool). unmarked m line) c.are_marked.ensures)
    (batch_of c.args.batch.now.items) (batch_of c.take_whole.new.batch.items) c.args.text.now.items c.take_whole.new.text.items takes)
    (c.take_whole.ensures.taken kept stands)

pub returns-clause-came : goal.returns-clause-came
returns-clause-came c = λ kept stands.
    let under = c.args.setup.now.standing in
    let held = c.args.setup.now.held_back in
    let line = c.args.line.now in
    let rest = c.unmarked-rest.result.now in
    IfOk-weaker c.take_whole.result (λ came. came ≡ whole_outcome under c.held_for-held.result kept rest) (λ came. came ≡ careful_outcome under held kept line)
    (λ came is. is ∙ came_looked under held c.held_for-held.result c.take_whole.new.self.register kept line rest c.held_for-held.ensures (c.unmarked-rest.ensures ∙ ap (λ (m : Bool). unmarked m line) c.are_marked.ensures))
    (c.take_whole.ensures.came kept stands)
