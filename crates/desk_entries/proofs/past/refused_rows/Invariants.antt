use Rattle.std.proofs.Common.{◌≡◌, ◌++◌, drop, map}
use Rattle.desk_register.specs.Words.{change_in}
use Rattle.desk_entries.specs.Past.{rows_refused}
use Rattle.desk_entries.proofs.past.refused_rows.Given as goal

-- the rows so far, and those of the differences that are left, are all
abbrev pub invariant-loop-difference : goal.invariant-loop-difference
invariant-loop-difference l = l.rows.items ++ rows_refused l.under l.moved (map change_in (drop l.difference-index l.differences)) ≡ rows_refused l.under l.moved (map change_in l.differences)
