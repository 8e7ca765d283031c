use Rattle.std.proofs.Common.{◌∙◌, ◌<◌, length, arith}
use Rattle.desk_numbers.proofs.SaidLemmas.{extended_on}
use Rattle.desk_numbers.proofs.said.extend.Goals as goal

pub rows-preserved : goal.rows-preserved
rows-preserved c =
    let short : length c.rows.kept.items < c.args.rows = omega arith in
    extended_on c.rows.kept.items _ c.args.rows c.in_ok-push.ensures.items short ∙ c.rows.invariant
