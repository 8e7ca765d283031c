use Rattle.std.proofs.Common.{◌∙◌}
use Rattle.court_file_text.proofs.NamesLemmas.{numbered}
use Rattle.court_file_text.proofs.names.Names.index_of.Goals as goal

pub returns-clause-value : goal.returns-clause-value
returns-clause-value c = rw (← c.self.view_is) (c.get_index_of.ensures.index ∙ numbered c.self.inside.names.keys c.args.name.now)
