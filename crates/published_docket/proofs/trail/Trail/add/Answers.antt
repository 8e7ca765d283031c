use Rattle.std.proofs.Common.{◌≡◌, sym, ◌∙◌, ap}
use Rattle.published_docket.specs.Trails.{TrailView}
use Rattle.published_docket.proofs.TrailLemmas.{adds_moves}
use Rattle.published_docket.proofs.trail.Trail.add.Goals as goal

pub compare_exchange-found-requires : goal.compare_exchange-found-requires
compare_exchange-found-requires c =
    let h = c.requires.head in
    let offer = c.plain-offer.ensures in
    let pen = c.no_pen-pen.ensures in
    let book : c.self.inside.seen.book ≡ c.args.head.now.book = ap (λ (p : TrailView). p.book) c.self.view_is ∙ sym (ap (λ w. w.book) h) in (
      ap (λ w. w.tracked) h,
      book,
      pen.0 ∙ book,
      offer.0,
      rw (ap (λ w. w.key) h, pen.1, offer.1, offer.3) (adds_moves c.self.inside.seen.log c.args.entry.now c.self.inside.count (sym c.self.invariant)),
    )
