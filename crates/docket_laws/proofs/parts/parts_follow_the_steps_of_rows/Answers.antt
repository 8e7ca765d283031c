use Rattle.docket_laws.proofs.PartsStep.{step_answer, step_parts}
use Rattle.docket_laws.proofs.parts.parts_follow_the_steps_of_rows.Goals as goal

pub returns : goal.returns
returns c = record { answers = step_answer; parts = step_parts }
