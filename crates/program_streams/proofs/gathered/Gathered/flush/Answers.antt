use Rattle.std.proofs.Common.{◌∙◌, List, ℕ, [], subst, sym}
use Rattle.program_streams.specs.Gathered.{Adds}
use Rattle.program_streams.proofs.gathered.Gathered.flush.Goals as goal

pub returns-clause-given : goal.returns-clause-given
returns-clause-given g c =
    let Before : List ℕ → Type 0 = λ l. Adds g.W.Write.contents c.args.writer.now l c.give.new.writer [] [] in
    let After : List ℕ → Type 0 = λ l. Adds g.W.Write.contents c.args.writer.now c.args.self.now c.give.new.writer l [] in
    subst After (sym {A = List ℕ} c.clear.ensures.items) (subst Before (c.as_slice.ensures.value ∙ c.self.view_is) c.give.ensures)
