use Rattle.std.proofs.Common.{arith}
use Rattle.std.proofs.lemmas.Grind.{common_steps}
use Rattle.desk_session.proofs.ReadingLemmas.{cut_so, none_ended}
use Rattle.desk_session.proofs.reading.cut_lines.Goals as goal

pub returns : goal.returns
returns c =
    cut_so c.args.begun.now.items c.args.bytes.now c.replace.result.items c.replace.new.dest.items c.ended_length.result (grind (arith, common_steps)) (grind (arith, common_steps)) (c.ended_length.ensures.ended (grind (arith, common_steps)))

pub returns-then-is_empty : goal.returns-then-is_empty
returns-then-is_empty c =
    none_ended c.args.begun.now.items c.args.bytes.now c.split_at.result.0.now c.split_at.result.1.now c.new.result.items c.extend_from_slice.new.self.items c.ended_length.result c.split_at.ensures.front c.split_at.ensures.back (grind (arith, common_steps)) c.new.ensures.items c.in_ok-extend_from_slice.ensures.items
