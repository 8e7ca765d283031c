use Rattle.std.proofs.Common.{◌∙◌, Some, ap}
use Rattle.case_numbers.proofs.LookupLemmas.{named_at, not_named}
use Rattle.case_numbers.proofs.names.Names.name_of.Goals as goal

pub returns-in-Some : goal.returns-in-Some
returns-in-Some c = rw (← c.self.view_is) (ap Some c.shown.ensures ∙ named_at c.self.inside.cases.items c.self.inside.numbers.keys c.args.number c.self.invariant.0 c.in-Some.place c.index.result.now c.in-Some.ensures.index c.index.ensures)

pub returns-in-None : goal.returns-in-None
returns-in-None c = rw (← c.self.view_is) (not_named c.self.inside.cases.items c.self.inside.numbers.keys c.args.number c.self.invariant.0 c.in-None.ensures.index)
