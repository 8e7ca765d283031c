use Rattle.std.proofs.Common.{◌≡◌, ℕ, List, take}
use Rattle.desk_journal.specs.Words.{batch_of}
use Rattle.desk_session.specs.Words.{TakesLines}
use Rattle.desk_register.specs.Words.{IsReadyAt, leaves, told}
use Rattle.desk_warnings.specs.Inside.Rows.{row_texts}
use Rattle.desk_warnings.specs.Rows.{came_of_rows}
use Rattle.desk_warnings.proofs.register.CarefulRegister.take_rows.Given as goal

-- the rows so far are taken
abbrev pub invariant-loop-row : goal.invariant-loop-row
invariant-loop-row l =
    (kept : List (List ℕ)) → IsReadyAt l.standing l.fn.self.register kept
    → TakesLines (leaves l.standing) (told l.standing) (IsReadyAt l.standing l.self.register) kept (row_texts (take l.row-index l.rows)) (batch_of l.fn.batch.items) (batch_of l.batch.items) l.fn.text.items l.text.items
    × (l.came ≡ came_of_rows l.standing kept (row_texts (take l.row-index l.rows)))
