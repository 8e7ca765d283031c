use Rattle.docket_laws.proofs.ReadsSame.{refusal_rests}
use Rattle.docket_laws.proofs.ReadsChanged.{answered_rests}
use Rattle.docket_laws.proofs.reads.commands_rest_on_parts_wanted.Goals as goal

pub returns : goal.returns
returns c = record { refused = refusal_rests; answers = answered_rests }
