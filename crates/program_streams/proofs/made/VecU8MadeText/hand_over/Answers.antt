use Rattle.program_streams.proofs.GatheredLemmas.{adds_same}
use Rattle.program_streams.proofs.made.VecU8MadeText.hand_over.Goals as goal

pub returns : goal.returns
returns g c =
    adds_same g.W.Write.contents c.args.writer.now c.args.gathered.now c.add.new.writer c.add.new.self c.as_slice.result.now c.args.self.items c.as_slice.ensures.value c.add.ensures
