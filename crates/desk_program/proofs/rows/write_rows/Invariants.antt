use Rattle.std.proofs.Common.{◌≡◌, ◌≤◌, ◌++◌, ℕ, List, false, take}
use Rattle.std.specs.Io.KnownBytes.{Appends}
use Rattle.desk_journal.specs.Words.{batch_of}
use Rattle.desk_entries.specs.Words.{next_number, row_entries, rows_written, standing_file}
use Rattle.program_streams.specs.Words.{has_failed, watched}
use Rattle.desk_program.specs.Rows.{head_of}
use Rattle.desk_program.proofs.rows.write_rows.Given as goal

-- what was written and gathered are the rows so far
abbrev pub invariant-loop-place : goal.invariant-loop-place
invariant-loop-place g l =
    (1 ≤ l.place)
    × (has_failed l.writer ≡ false)
    × (written : List ℕ) × Appends (g.W.Write.contents (watched l.fn.writer)) (g.W.Write.contents (watched l.writer)) written
    × (written ++ l.text.items ≡ head_of (standing_file (batch_of l.entries)) ++ rows_written l.under l.moved 1 (row_entries (batch_of (take l.place l.entries))))
    × (l.number ≡ next_number (batch_of (take l.place l.entries)))
