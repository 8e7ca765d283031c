use Rattle.std.proofs.Common.{◌∙◌, codes, ap}
use Rattle.std.proofs.lemmas.Result.{IfOk-weaker}
use Rattle.clap.specs.Words.{App, with_rule}
use Rattle.program_main.specs.Texts.Words.{text_rule}
use Rattle.program_words.proofs.court_commands.with_hours.Goals as goal

pub returns : goal.returns
returns c =
    IfOk-weaker c.with_text.result _ _ (λ whole is. is ∙ ap (λ (a : App). with_rule a (text_rule (codes "efiling-until"))) c.in_ok-command.ensures) c.with_text.ensures
