use Rattle.std.proofs.Common.{◌≡◌, map}
use Rattle.report_texts.specs.Selected.{numbered_pending}
use Rattle.desk_numbers.proofs.CallerLemmas.{changed_up_to}
use Rattle.report_texts.proofs.selected.pending.number_all_pending.Given as goal

-- the first have their numbers, and the others are as they were
abbrev pub invariant-list : goal.invariant-list
invariant-list l = changed_up_to (numbered_pending l.moved) l.items l.item-index ≡ map (numbered_pending l.moved) l.initial.items
