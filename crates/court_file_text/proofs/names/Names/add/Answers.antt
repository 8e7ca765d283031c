use Rattle.court_file_text.proofs.NamesLemmas.{added}
use Rattle.court_file_text.proofs.names.Names.add.Goals as goal

pub returns-clause-ok : goal.returns-clause-ok
returns-clause-ok c = rw (← c.self.view_is) (added c.self.inside.names.keys c.insert.new.self.keys c.in_ok-from_str.field-0 c.args.name.now c.in_ok-from_str.ensures.ok (rw c.self.view_is c.requires) c.in_ok-insert.ensures.keys)
