use Rattle.std.proofs.Common.{◌∙◌, ap, sym}
use Rattle.docket_rows.specs.declared.fact.Fact.{Fact}
use Rattle.docket_rows.specs.Words.{changed_by_fact}
use Rattle.docket_decisions.proofs.facts.change_by_fact.Goals as goal

pub returns-in-Resumed : goal.returns-in-Resumed
returns-in-Resumed c = c.run_if_anew.ensures ∙ ap (λ (fact : Fact). changed_by_fact fact c.args.case.now) (sym c.in-Resumed.is)
