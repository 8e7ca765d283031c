use Rattle.std.proofs.Common.{◌≡◌, arith, false}
use Rattle.std.proofs.lemmas.Grind.{common_steps}
use Rattle.program_streams.specs.Watched.{has_failed}
use Rattle.program_streams.proofs.GatheredLemmas.{adds_given}
use Rattle.program_streams.proofs.gathered.give.Goals as goal

pub returns-then-not-failed : goal.returns-then-not-failed
returns-then-not-failed g c =
    let well : has_failed c.args.writer.now ≡ false = grind (arith, common_steps) in
    adds_given g.W.Write.contents c.args.writer.now c.write_all-answer.new.writer c.args.bytes.now well c.write_all-answer.ensures.given
