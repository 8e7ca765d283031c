use Rattle.std.proofs.Common.{ℕ, ◌≤◌, ◌++◌, ◌∷◌, List, length, Vec, sym, ◌∙◌, ap, subst, arith}
use Rattle.std.specs.declared.alloc.Global.{Global}
use Rattle.std.proofs.lemmas.List.Elements.{All-more}
use Rattle.desk_journal.specs.Frames.{frame_of, packed, checksum}
use Rattle.desk_journal.proofs.pack.pack.Goals as goal
use Rattle.desk_journal.proofs.BatchLemmas.{packed_more}

pub loop-entry-preserved : goal.loop-entry-preserved
loop-entry-preserved c = record {
  packed = packed_more c.args.previous.now c.args.durable c.args.stamp.now c.args.batch.now c.loop-entry.entry-index c.entry-item.result c.loop-entry.buffer.items c.loop-entry.sum c.push_frame.new.buffer.items c.in_ok-sum.sum
      c.loop-entry-test.true c.loop-entry.invariant.packed c.entry-item.is
      (c.in_ok-sum.ensures.bytes ∙ ap (λ (l : List ℕ). c.loop-entry.buffer.items ++ 43 ∷ 43 ∷ packed c.loop-entry.sum (frame_of c.args.durable (c.args.stamp.now ++ l))) c.as_slice-bytes.ensures.value)
      (c.in_ok-sum.ensures.sum ∙ ap (λ (l : List ℕ). checksum c.loop-entry.sum (frame_of c.args.durable (c.args.stamp.now ++ l))) c.as_slice-bytes.ensures.value);
  short = All-more (λ (v : Vec ℕ Global). length v.items ≤ 16777216) c.args.batch.now c.loop-entry.entry-index c.entry-item.result c.loop-entry-test.true c.loop-entry.invariant.short
      (subst (λ (v : Vec ℕ Global). length v.items ≤ 16777216) c.entry-item.is (omega (arith, ap length c.as_slice-bytes.ensures.value)));
}

pub returns-then-bytes-gt-LONGEST-clause-cause : goal.returns-then-bytes-gt-LONGEST-clause-cause
returns-then-bytes-gt-LONGEST-clause-cause c =
    (c.loop-entry.entry-index, c.entry-item.result, c.loop-entry-test.true, sym c.entry-item.is, omega (arith, ap length c.as_slice-bytes.ensures.value))
