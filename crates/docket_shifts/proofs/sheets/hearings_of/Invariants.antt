use Rattle.std.proofs.Common.{◌≡◌, ◌++◌, drop}
use Rattle.std.specs.List.{flat_map}
use Rattle.docket_shifts.specs.Sheets.{hearing_of}
use Rattle.docket_shifts.proofs.sheets.hearings_of.Given as goal

-- the hearings so far, and those of the motions that are left, are all
abbrev pub invariant-loop-motion : goal.invariant-loop-motion
invariant-loop-motion l = l.hearings.items ++ flat_map (hearing_of l.court) (drop l.motion-index l.motions) ≡ flat_map (hearing_of l.court) l.motions
