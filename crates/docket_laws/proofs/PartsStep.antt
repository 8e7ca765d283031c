-- Where parts stand for rows, they do so after a command too, whether it is refused or not.
use Rattle.std.proofs.Common.{◌≡◌, is_none, Option, Some, None, unwrap_or, if◌then◌else◌, refl, ap, sym, ◌∙◌}
use Rattle.std.specs.Option.{option_map_or}
use Rattle.docket_rows.specs.declared.command.Command.{Command}
use Rattle.docket_rows.specs.declared.part.PartId.{PartId}
use Rattle.docket_rows.specs.declared.refusal.Refusal.{Refusal}
use Rattle.docket_rows.specs.Words.{CourtSetup, Parts, Rows, AreSound, part_value, part_after, parts_of, refusal, changed, step, rows_after, answered}
use Rattle.docket_laws.proofs.PartsAfter.{parts_after}
use Rattle.docket_laws.proofs.PartsSame.{same_refusal, same_answer, same_writes}

-- the answer is that of the step
pub step_answer : (setup : CourtSetup) (p : Parts) (rows : Rows) (command : Command) → ((part : PartId) → part_value p part ≡ part_value (parts_of rows) part) → answered setup p command ≡ (step setup rows command).1
unfolding step
step_answer setup p rows command same = same_answer setup p (parts_of rows) command same

-- and each part is that of the rows after the step
pub step_parts : (setup : CourtSetup) (p : Parts) (rows : Rows) (command : Command) → AreSound setup rows → ((part : PartId) → part_value p part ≡ part_value (parts_of rows) part) → (part : PartId) → part_after setup p command part ≡ part_value (parts_of (step setup rows command).0) part
unfolding step
step_parts setup p rows command sound same part =
    rw (same_refusal setup p (parts_of rows) command same) (by_refusal (refusal setup (parts_of rows) command) refl) where
      by_refusal : (r : Option Refusal) → refusal setup (parts_of rows) command ≡ r → (if is_none r then unwrap_or (changed p command part) (part_value p part) else part_value p part) ≡ part_value (parts_of (option_map_or (λ refused. rows) r (rows_after rows command))) part
      by_refusal None free =
          ap (λ o. unwrap_or o (part_value p part)) (same_writes p (parts_of rows) command same part)
          ∙ ap (unwrap_or (changed (parts_of rows) command part)) (same part)
          ∙ sym (parts_after setup rows command sound free part)
      by_refusal (Some refused) is = same part
