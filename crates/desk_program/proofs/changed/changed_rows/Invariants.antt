use Rattle.std.proofs.Common.{◌≡◌, ◌+◌, ◌-◌, ◌≤◌, ◌++◌, map}
use Rattle.desk_entries.specs.Words.{change_in}
use Rattle.desk_program.specs.Inside.Changed.{walked}
use Rattle.desk_program.proofs.changed.changed_rows.Given as goal

-- the rows so far, and the changed ones of those that are left, are all
abbrev pub invariant-loop-number : goal.invariant-loop-number
invariant-loop-number l = record {
  begun : 1 ≤ l.number;
  so_far : l.rows.items ++ walked l.corrections (l.next - l.number) l.number (map change_in l.had) (map change_in l.has) ≡ walked l.corrections (l.next - 1) 1 (map change_in l.fn.had) (map change_in l.fn.has);
}
