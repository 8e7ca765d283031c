use Rattle.std.proofs.Common.{◌≡◌, ◌∙◌, ◌<◌, List, Option, ap, arith, length}
use Rattle.std.proofs.lemmas.Result.{IfOk-weaker}
use Rattle.desk_numbers.specs.declared.given.Given.{Given}
use Rattle.desk_numbers.specs.Words.{NumbersView, unsaid}
use Rattle.desk_register.specs.Run.{run_by, unsaid_by}
use Rattle.desk_register.proofs.GivenLemmas.{as_many_gave}
use Rattle.desk_register.proofs.ListLemmas.{next_number-few}
use Rattle.desk_register.proofs.register.DocketRegister.unsaid.Goals as goal

pub returns-clause-said : goal.returns-clause-said
returns-clause-said c = λ kept stands.
    let given : List (Option Given) = c.args.self.now.numbers.given in
    let same : given ≡ (run_by c.args.under.now kept).numbers.given = ap (λ (n : NumbersView). n.given) stands.numbers in
    let short : length given < 4_294_967_296 = omega (arith, ap length same, as_many_gave c.args.under.now kept, next_number-few kept stands.begun, stands.few) in
    IfOk-weaker c.unsaid.result _ (λ said. said.items ≡ unsaid_by c.args.under.now kept)
    (λ said is. is short ∙ ap (λ (l : List (Option Given)). unsaid l given 1) c.kept.ensures ∙ ap (λ (l : List (Option Given)). unsaid c.args.under.now.corrections.kept l 1) same)
    c.unsaid.ensures.said
