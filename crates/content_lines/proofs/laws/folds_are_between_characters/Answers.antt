use Rattle.content_lines.proofs.WholeLemmas.{folds_are_between_characters}
use Rattle.content_lines.proofs.laws.folds_are_between_characters.Goals as goal

pub returns : goal.returns
returns c = folds_are_between_characters
