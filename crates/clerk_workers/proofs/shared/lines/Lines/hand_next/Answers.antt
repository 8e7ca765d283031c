use Rattle.std.proofs.Common.{ℕ, List, ap, length}
use Rattle.program_streams.proofs.CallerLemmas.{adds_same}
use Rattle.clerk_workers.specs.Shared.Lines.{LinesView}
use Rattle.clerk_workers.specs.Shared.Merged.{first_text}
use Rattle.clerk_workers.proofs.SharedLemmas.HandedLemmas.{handed}
use Rattle.clerk_workers.proofs.shared.lines.Lines.hand_next.Goals as goal

pub returns-then-self-len-clause-text : goal.returns-then-self-len-clause-text
returns-then-self-len-clause-text g c =
    adds_same g.W.Write.contents c.args.writer.now c.args.gathered.now c.add.new.writer c.add.new.self c.first-text.result.now (first_text c.args.self.now.texts) c.first-text.ensures c.add.ensures

pub returns-then-self-len-clause-left : goal.returns-then-self-len-clause-left
returns-then-self-len-clause-left g c =
    handed c.self.inside.place c.self.inside.at (length c.first-text.result.now) c.self.inside.bytes.items c.self.inside.lens.items c.args.self.now.texts (ap (λ (l : LinesView). l.texts) c.self.view_is) (ap (λ (t : List ℕ). length t) c.first-text.ensures)

pub returns-else-self-len-clause-text : goal.returns-else-self-len-clause-text
returns-else-self-len-clause-text g c =
    adds_same g.W.Write.contents c.args.writer.now c.args.gathered.now c.add.new.writer c.add.new.self c.first-text.result.now (first_text c.args.self.now.texts) c.first-text.ensures c.add.ensures
