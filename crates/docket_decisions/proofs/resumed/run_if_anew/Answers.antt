use Rattle.std.proofs.Common.{◌∙◌, ℤ, Option, ap, sym}
use Rattle.rule_periods.specs.Words.{anew_if}
use Rattle.docket_rows.specs.Words.{change_deadline}
use Rattle.docket_laws.proofs.CallerLemmas.{nothing_anew}
use Rattle.docket_decisions.proofs.resumed.run_if_anew.Goals as goal

pub returns-in-None : goal.returns-in-None
returns-in-None c = sym (nothing_anew c.args.deadline c.args.case.now) ∙ ap (λ (from : Option ℤ). change_deadline c.args.deadline (λ row. anew_if row from) c.args.case.now) (sym c.in-None.is)
