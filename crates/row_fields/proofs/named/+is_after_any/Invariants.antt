use Rattle.std.proofs.Common.{length}
use Rattle.row_fields.proofs.named.+is_after_any.Given as goal

abbrev pub decreases-is_after_any : goal.decreases-is_after_any
decreases-is_after_any l = length l.texts.now
