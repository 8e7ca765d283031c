use Rattle.std.proofs.Common.{ℕ, List, ◌++◌, ◌∷◌, [], ap, sym, ◌∙◌}
use Rattle.docket_rows.specs.declared.part.PartId.{PartId}
use Rattle.docket_rows.specs.declared.part.PartValue.{PartValue}
use Rattle.published_docket.specs.declared.change.BoardChange.TheVariants.{Put}
use Rattle.published_docket.specs.Changes.{puts_of}
use Rattle.published_docket.specs.Inside.Held.{HeldView}
use Rattle.published_docket.proofs.ChangeLemmas.{puts_more}
use Rattle.published_docket.proofs.held.Held.write.Goals as goal

pub loop-write-preserved : goal.loop-write-preserved
loop-write-preserved c =
    let was = c.loop-write.self in
    let rest = c.pop.new.self.items in
    let w = c.in-Some.write in
    record {
      shown = ap (λ (h : HeldView). h.shown) c.in-Ok.ensures ∙ c.loop-write.invariant.shown;
      pending =
          ap (λ (h : HeldView). h.pending ++ puts_of c.args.version rest) c.in-Ok.ensures
          ∙ (ap (λ (n : ℕ). (was.pending ++ Put n c.args.version w.1 ∷ []) ++ puts_of c.args.version rest) c.cell_of.ensures
          ∙ (puts_more c.args.version was.pending rest w
          ∙ (ap (λ (l : List (PartId × PartValue)). was.pending ++ puts_of c.args.version l) (sym c.in-Some.ensures.items) ∙ c.loop-write.invariant.pending)));
    }
