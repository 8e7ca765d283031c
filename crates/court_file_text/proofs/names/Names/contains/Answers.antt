use Rattle.std.proofs.Common.{◌∙◌}
use Rattle.court_file_text.proofs.NamesLemmas.{named}
use Rattle.court_file_text.proofs.names.Names.contains.Goals as goal

pub returns : goal.returns
returns c = rw (← c.self.view_is) (c.contains.ensures ∙ named c.self.inside.names.keys c.args.name.now)
