use Rattle.std.proofs.Common.{◌∙◌}
use Rattle.report_program.proofs.TakenLemmas.{found_if_text, text_is}
use Rattle.report_program.proofs.taken.text_found.Goals as goal

pub returns-clause-found : goal.returns-clause-found
returns-clause-found c = λ past rows holds is.
    text_is c.args.asked.now c.args.court.now c.args.labels.now past rows c.args.chosen.now is c.in_ok-text.text c.as_found.result c.as_found.ensures (c.in_ok-text.ensures.found past rows holds)

pub returns-clause-some : goal.returns-clause-some
returns-clause-some c = found_if_text c.in_ok-text.text c.as_found.result c.as_found.ensures ∙ c.in_ok-text.ensures.some
