use Rattle.std.proofs.Common.{◌∙◌, ◌++◌, List, ap, map}
use Rattle.std.proofs.lemmas.Result.{on_ok_weaker}
use Rattle.row_input.specs.Reading.{FaultyText, faulty_in}
use Rattle.row_input.proofs.RowLemmas.{faulty_none, faulty_some}
use Rattle.row_input.proofs.reading.push_faulty.Goals as goal

pub returns-then-are_none : goal.returns-then-are_none
returns-then-are_none c =
    faulty_none c.args.number c.args.line.now c.args.mark.now c.args.faults.items (map faulty_in c.args.faulty.now.items) (c.are_none.ensures.none c.if-are_none.true)

pub returns-else-are_none : goal.returns-else-are_none
returns-else-are_none c =
    on_ok_weaker c.push_found.result
    (λ added. added ∙ ap (λ (l : List FaultyText). map faulty_in c.args.faulty.now.items ++ l) (faulty_some c.args.number c.args.line.now c.args.mark.now c.args.faults.items (c.are_none.ensures.some c.if-are_none.false)))
    c.push_found.ensures
