use Rattle.reason_notes.proofs.MarginsLemmas.CallerLemmas.{margin_decides}
use Rattle.reason_notes.proofs.margins.laws.margins_decide.Goals as goal

pub returns : goal.returns
returns c clock shown filing = margin_decides clock shown filing
