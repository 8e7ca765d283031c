use Rattle.content_lines.proofs.EscapingLemmas.{escaped_values_read_back}
use Rattle.content_lines.proofs.laws.escaped_values_read_back.Goals as goal

pub returns : goal.returns
returns c = escaped_values_read_back
