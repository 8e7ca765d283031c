use Rattle.std.proofs.Common.{◌++◌, ◌∙◌, ap, append-nil, sym, string_bytes}
use Rattle.court_writing.specs.Named.{lines_from, line_on}
use Rattle.court_writing.proofs.LinesLemmas.{one_line_more, one_part_more}
use Rattle.court_writing.proofs.lines.push_lines.Goals as goal

pub loop-place-init : goal.loop-place-init
unfolding lines_from
loop-place-init c = sym (append-nil _)

pub loop-place-preserved : goal.loop-place-preserved
loop-place-preserved c =
    let lines = lines_from c.args.state c.args.line c.args.first c.loop-place.place in
    one_part_more _ _ _ lines _ c.in_ok-push_line.ensures c.loop-place.invariant
    ∙ ap (λ d. string_bytes c.args.text.now ++ (lines ++ line_on c.args.state c.args.line d)) c.day_at.ensures
    ∙ ap (λ all. string_bytes c.args.text.now ++ all) (sym (one_line_more c.args.state c.args.line c.args.first c.loop-place.place))
