use Rattle.case_numbers.proofs.LookupLemmas.{not_numbered, numbered}
use Rattle.case_numbers.proofs.names.Names.number_of.Goals as goal

pub returns-in-Some : goal.returns-in-Some
returns-in-Some c = rw (← c.self.view_is) (numbered c.self.inside.cases.items c.self.inside.keys.keys c.args.key.now c.self.invariant.1 c.in-Some.place c.index.result.now c.in-Some.ensures.index c.index.ensures)

pub returns-in-None : goal.returns-in-None
returns-in-None c = rw (← c.self.view_is) (not_numbered c.self.inside.cases.items c.self.inside.keys.keys c.args.key.now c.self.invariant.1 c.in-None.ensures.index)
