use Rattle.std.proofs.Common.{◌≡◌, ◌-◌, length}
use Rattle.versioned_steps.specs.Words.{IsReading}
use Rattle.shared_docket.specs.Words.{docket_rules}
use Rattle.published_docket.proofs.reading.read_all.Given as goal

-- what was read so far was read now, and a command reads no more than the most
abbrev pub invariant-loop-part : goal.invariant-loop-part
invariant-loop-part l = record {
  clerk : l.draft.clerk ≡ l.fn.clerk;
  command : l.draft.command ≡ l.command;
  reading : IsReading (docket_rules l.shown.parts) l.shown.trail.log l.draft;
}

abbrev pub decreases-loop-part : goal.decreases-loop-part
decreases-loop-part l = (docket_rules l.shown.parts).most_reads - length l.draft.reads
