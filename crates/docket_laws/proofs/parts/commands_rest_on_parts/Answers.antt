use Rattle.docket_laws.proofs.PartsSame.{same_refusal, same_answer, same_writes}
use Rattle.docket_laws.proofs.parts.commands_rest_on_parts.Goals as goal

pub returns : goal.returns
returns c = record { refused = same_refusal; answers = same_answer; writes = same_writes }
