use Rattle.std.proofs.Common.{◌≡◌, ◌-◌, List, length}
use Rattle.versioned_steps.specs.Rules.{AreReadsOf}
use Rattle.versioned_steps.specs.Reads.{copies_of}
use Rattle.versioned_steps.specs.Drafts.{IsReading}
use Rattle.versioned_steps.specs.Stores.{Replays}
use Rattle.versioned_steps.specs.declared.entry.Entry.{Entry}
use Rattle.versioned_steps.proofs.store.Store.prepare.Given as goal

-- what was read so far was read now, and a command reads no more than the most
abbrev pub invariant-loop-part : goal.invariant-loop-part
invariant-loop-part g l = record {
  clerk : l.draft.clerk ≡ l.fn.clerk;
  command : l.draft.command ≡ l.fn.command;
  in_order : AreReadsOf (g.P.Parted.rules l.self.owner) l.draft.command (copies_of l.draft.reads);
  reading : (h : List (Entry g.row.P-Command.Denot g.row.P-Answer.Denot)) → Replays (g.P.Parted.rules l.self.owner) h l.self → IsReading (g.P.Parted.rules l.self.owner) h l.draft;
}

abbrev pub decreases-loop-part : goal.decreases-loop-part
decreases-loop-part g l = (g.P.Parted.rules l.self.owner).most_reads - length l.draft.reads
