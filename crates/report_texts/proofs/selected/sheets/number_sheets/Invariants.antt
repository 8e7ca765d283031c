use Rattle.std.proofs.Common.{◌≡◌, map}
use Rattle.desk_numbers.specs.Words.{numbered_sheet}
use Rattle.desk_numbers.proofs.CallerLemmas.{changed_up_to}
use Rattle.report_texts.proofs.selected.sheets.number_sheets.Given as goal

-- the first have their numbers, and the others are as they were
abbrev pub invariant-list : goal.invariant-list
invariant-list l = changed_up_to (numbered_sheet l.moved) l.sheets l.sheet-index ≡ map (numbered_sheet l.moved) l.initial.sheets
