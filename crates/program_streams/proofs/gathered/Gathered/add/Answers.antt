use Rattle.std.proofs.Common.{◌≡◌, List, ℕ, [], append-nil, subst, sym}
use Rattle.program_streams.specs.Gathered.{Adds}
use Rattle.program_streams.proofs.GatheredLemmas.{adds_both, adds_kept}
use Rattle.program_streams.proofs.gathered.Gathered.add.Goals as goal

-- what waits is written, and then the piece
pub returns : goal.returns
returns g c =
    let contents = g.W.Write.contents in
    let old = c.args.writer.now in
    let piece = c.args.piece.now in
    let flushed = c.flush.new.writer in
    let after = c.give.new.writer in
    let same : c.keep.new.self ≡ c.args.self.now = rw c.if-keep.false at c.keep.ensures in
    let Before : List ℕ → Type 0 = λ l. Adds contents old l flushed [] [] in
    let Empty : List ℕ → Type 0 = λ l. Adds contents old c.keep.new.self flushed l [] in
    let none = subst Before same (subst Empty c.flush.ensures.empty c.flush.ensures.given) in
    let waits = adds_both contents old c.args.self.now flushed [] flushed piece [] piece none (adds_kept contents flushed [] piece) in
    let given = adds_both contents old c.args.self.now flushed piece after [] piece [] waits c.give.ensures in
    let Same : List ℕ → Type 0 = λ l. Adds contents old c.args.self.now after [] l in
    let After : List ℕ → Type 0 = λ l. Adds contents old c.args.self.now after l piece in
    subst After (sym c.flush.ensures.empty) (subst Same (append-nil piece) given)
