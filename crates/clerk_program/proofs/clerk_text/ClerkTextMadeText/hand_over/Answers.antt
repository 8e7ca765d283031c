use Rattle.std.proofs.Common.{ap, sym}
use Rattle.program_streams.proofs.CallerLemmas.{adds_same}
use Rattle.clerk_program.specs.ClerkText.{bytes_of}
use Rattle.clerk_program.proofs.clerk_text.ClerkTextMadeText.hand_over.Goals as goal

pub returns-in-One : goal.returns-in-One
returns-in-One g c =
    adds_same g.W.Write.contents c.args.writer.now c.args.gathered.now c.hand_over.new.writer c.hand_over.new.gathered c.in-One.bytes.items (bytes_of c.args.self) (sym (ap bytes_of c.in-One.is)) c.hand_over.ensures

pub returns-in-Several : goal.returns-in-Several
returns-in-Several g c =
    adds_same g.W.Write.contents c.args.writer.now c.args.gathered.now c.hand_over-in-Several.new.writer c.hand_over-in-Several.new.gathered c.in-Several.text (bytes_of c.args.self) (sym (ap bytes_of c.in-Several.is)) c.hand_over-in-Several.ensures
