use Rattle.std.proofs.Common.{◌≡◌, ◌+◌, ◌++◌, length, drop, map}
use Rattle.docket_rows.specs.Words.{sheet_deadline, numbered_deadlines}
use Rattle.docket_core.proofs.views.sheet.sheet_deadlines.Given as goal

-- the deadlines so far, and those of the rows that are left, are all
abbrev pub invariant-loop-row : goal.invariant-loop-row
invariant-loop-row g l = record {
  count : length l.list.items ≡ l.row-index;
  whole : l.list.items ++ map (sheet_deadline l.rules (g.S.Sight.parts l.sight) l.facts) (numbered_deadlines (l.row-index + 1) (drop l.row-index l.rows)) ≡ map (sheet_deadline l.rules (g.S.Sight.parts l.sight) l.facts) (numbered_deadlines 1 l.rows);
}
