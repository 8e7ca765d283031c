use Rattle.std.proofs.Common.{◌∙◌, ◌+◌, ap, drop, max, sym}
use Rattle.desk_numbers.specs.Moved.{after_moved}
use Rattle.desk_numbers.proofs.NumberLemmas.{moved_all, moved_on}
use Rattle.desk_numbers.proofs.moved.next_after.Goals as goal

pub list-preserved : goal.list-preserved
list-preserved c =
    let list = c.args.list.now in
    let place = c.list.moved-index in
    ap (λ n. max n (after_moved (drop (place + 1) list) c.args.case c.args.counted)) (c.max-next.ensures ∙ ap (max c.list.next) c.after.ensures)
    ∙ moved_on list place _ c.args.case c.args.counted c.list.next c.list-test.true ∙ c.list.invariant

pub returns : goal.returns
returns c = sym (moved_all c.args.list.now c.list.moved-index c.args.case c.args.counted c.list.next c.list-test.false) ∙ c.list.invariant
