use Rattle.content_lines.proofs.ShortLemmas.{sent_lines_are_short}
use Rattle.content_lines.proofs.laws.sent_lines_are_short.Goals as goal

pub returns : goal.returns
returns c = sent_lines_are_short
