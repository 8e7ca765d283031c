use Rattle.std.proofs.Common.{◌≡◌, map}
use Rattle.report_texts.specs.Selected.{numbered_item}
use Rattle.desk_numbers.proofs.CallerLemmas.{changed_up_to}
use Rattle.report_texts.proofs.selected.items.number_items.Given as goal

-- the first have their numbers, and the others are as they were
abbrev pub invariant-list : goal.invariant-list
invariant-list l = changed_up_to (numbered_item l.moved) l.items l.item-index ≡ map (numbered_item l.moved) l.initial.items
