use Rattle.report_memo.proofs.MarginLemmas.{says_the_state}
use Rattle.report_memo.proofs.laws.margins_say_the_state.Goals as goal

pub returns : goal.returns
returns c setup parts facts d filing end means filed = rw filed (says_the_state setup.clock _ filing end means)
