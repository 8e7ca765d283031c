use Rattle.std.proofs.Common.{◌≡◌, ◌+◌, ◌++◌, length, drop, map}
use Rattle.docket_rows.specs.Words.{sheet_motion, numbered_motions}
use Rattle.docket_core.proofs.views.sheet.sheet_motions.Given as goal

-- the motions so far, and those that are left, are all
abbrev pub invariant-loop-motion : goal.invariant-loop-motion
invariant-loop-motion l = record {
  count : length l.list.items ≡ l.motion-index;
  whole : l.list.items ++ map (sheet_motion l.days l.facts) (numbered_motions (l.motion-index + 1) (drop l.motion-index l.motions)) ≡ map (sheet_motion l.days l.facts) (numbered_motions 1 l.motions);
}
