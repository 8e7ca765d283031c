use Rattle.clerk_program.proofs.UniqueTextLemmas.{texts_are_unique_lem}
use Rattle.clerk_program.proofs.laws.texts_are_unique.Goals as goal

pub returns : goal.returns
returns c = texts_are_unique_lem c.texts_name_clocks.ensures
