use Rattle.std.proofs.Common.{◌∙◌, ◌<◌, ◌++◌, ◌∷◌, [], List, ap, arith, length}
use Rattle.desk_numbers.specs.Called.{CalledView}
use Rattle.desk_numbers.proofs.CalledLemmas.{lengthened_on}
use Rattle.desk_numbers.proofs.called.lengthen.Goals as goal

pub slots-preserved : goal.slots-preserved
slots-preserved c =
    let short : length c.slots.cases.items < c.args.count = omega arith in
    lengthened_on c.slots.cases.items _ c.args.count (c.in_ok-push.ensures.items ∙ ap (λ (t : List CalledView). c.slots.cases.items ++ t ∷ []) c.new.ensures) short ∙ c.slots.invariant
