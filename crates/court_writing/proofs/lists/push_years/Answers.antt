use Rattle.std.proofs.Common.{◌++◌, ◌∙◌, ap, append-nil, sym, string_bytes}
use Rattle.court_writing.specs.Named.{years_from}
use Rattle.court_writing.proofs.LinesLemmas.{one_part_more, one_year_more}
use Rattle.court_writing.proofs.lists.push_years.Goals as goal

pub loop-place-init : goal.loop-place-init
unfolding years_from
loop-place-init c = sym (append-nil _)

pub loop-place-preserved : goal.loop-place-preserved
loop-place-preserved c =
    let years = years_from c.args.state c.args.list c.args.first c.loop-place.place in
    one_part_more _ _ _ years _ c.in_ok-push_year.ensures c.loop-place.invariant
    ∙ ap (λ all. string_bytes c.args.text.now ++ all) (sym (one_year_more c.args.state c.args.list c.args.first c.loop-place.place))
