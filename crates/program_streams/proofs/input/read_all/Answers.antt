use Rattle.std.proofs.Common.{◌≡◌, ◌<◌, ◌++◌, [], take, length, arith}
use Rattle.std.proofs.lemmas.Grind.{common_steps}
use Rattle.std.proofs.KnownBytes.{Consumes-trans, Consumes-all}
use Rattle.program_streams.proofs.input.read_all.Goals as goal

-- the last read gave nothing, so what came before it is all there was
pub returns-then-count-eq0-clause-bytes : goal.returns-then-count-eq0-clause-bytes
returns-then-count-eq0-clause-bytes g c =
    let input = c.reads.input.items in
    let last = take c.in-Ok.count c.read.new.buf in
    let room : 0 < length c.read.new.buf = grind (arith, common_steps) in
    let same : input ≡ input ++ last = grind (arith, common_steps) in
    let read = c.in-Ok.ensures.bytes in
    Consumes-all _ _ (input ++ last) [] input (Consumes-trans _ _ _ input last c.reads.invariant.consumed read.0) (read.1 c.if-count-eq0.true room) same
