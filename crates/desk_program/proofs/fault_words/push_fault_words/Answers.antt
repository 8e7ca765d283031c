use Rattle.std.proofs.Common.{◌∙◌, ◌++◌, ℕ, List, ap}
use Rattle.std.proofs.lemmas.Result.{on_ok_weaker}
use Rattle.desk_program.proofs.FaultWordLemmas.{no_text_words, text_words}
use Rattle.desk_program.proofs.fault_words.push_fault_words.Goals as goal

pub returns-in-Ok : goal.returns-in-Ok
returns-in-Ok c =
    on_ok_weaker c.push_line_words.result (λ said. said ∙ ap (λ (l : List ℕ). c.args.text.now.items ++ l) (text_words c.args.cause c.in-Ok.line.now c.args.line.now c.in-Ok.ensures.cases.0 c.in-Ok.ensures.cases.1)) c.push_line_words.ensures

pub returns-in-Err : goal.returns-in-Err
returns-in-Err c =
    on_ok_weaker c.push_not_text.result (λ said. said ∙ ap (λ (l : List ℕ). c.args.text.now.items ++ l) (no_text_words c.args.cause c.args.line.now c.in-Err.ensures.cases.0)) c.push_not_text.ensures
