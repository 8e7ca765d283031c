use Rattle.std.proofs.Common.{◌≡◌, ◌++◌, drop}
use Rattle.desk_program.specs.ChangedText.{changes_text}
use Rattle.desk_program.proofs.changed_text.push_changes.Given as goal

-- the text so far, and that of the rows that are left, are all of it
abbrev pub invariant-loop-row : goal.invariant-loop-row
invariant-loop-row l = l.text.items ++ changes_text (drop l.row-index l.rows) ≡ l.fn.text.items ++ changes_text l.rows
