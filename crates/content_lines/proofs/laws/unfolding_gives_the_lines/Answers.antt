use Rattle.content_lines.proofs.FoldingLemmas.{unfolding_gives_the_lines}
use Rattle.content_lines.proofs.laws.unfolding_gives_the_lines.Goals as goal

pub returns : goal.returns
returns c = unfolding_gives_the_lines
