use Rattle.std.proofs.Common.{◌+◌, drop}
use Rattle.clerk_workers.specs.Shared.Merged.{merged_lines}
use Rattle.clerk_workers.proofs.SharedLemmas.HandedLemmas.{AreHanded}
use Rattle.clerk_workers.proofs.SharedLemmas.MergedTextLemmas.{texts_in}
use Rattle.clerk_workers.proofs.shared.shared_text.hand_lines.Given as goal

-- the lines of the first rows are handed over
abbrev pub invariant-loop-index : goal.invariant-loop-index
invariant-loop-index g l =
    AreHanded g.W.Write.contents l.fn.writer l.fn.gathered l.writer l.gathered (l.index + 1) (drop l.index l.rows) (texts_in l.lines.items) (merged_lines 1 l.rows (texts_in l.fn.lines.items))
