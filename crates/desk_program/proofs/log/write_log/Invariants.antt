use Rattle.std.proofs.Common.{◌≡◌, ◌≤◌, ◌+◌, ◌++◌, ℕ, List, drop, false, length, ltb}
use Rattle.std.specs.Io.KnownBytes.{Appends}
use Rattle.desk_journal.specs.Words.{batch_of}
use Rattle.program_streams.specs.Words.{has_failed, watched}
use Rattle.row_forms.specs.Words.{names_of}
use Rattle.desk_program.specs.Log.{later_log, log_text}
use Rattle.desk_program.proofs.log.write_log.Given as goal

-- what was written and gathered, and what is written of the entries that are left, are the whole log
abbrev pub invariant-loop-place : goal.invariant-loop-place
invariant-loop-place g l =
    (1 ≤ l.place)
    × (l.number ≤ l.place)
    × (has_failed l.writer ≡ false)
    × (written : List ℕ) × Appends (g.W.Write.contents (watched l.fn.writer)) (g.W.Write.contents (watched l.writer)) written
    × (l.some ≡ ltb 0 (length written + length l.text.items))
    × (written ++ (l.text.items ++ later_log l.choice l.named.items l.number (batch_of (drop l.place l.entries)) (drop l.place l.stamps)) ≡ log_text (names_of l.court) l.choice (batch_of l.entries) l.stamps)
