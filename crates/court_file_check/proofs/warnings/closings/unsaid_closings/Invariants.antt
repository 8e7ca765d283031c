use Rattle.std.proofs.Common.{◌≡◌, filter, map, take}
use Rattle.court_holidays.specs.Federal.Words.{closing_view}
use Rattle.court_file_check.specs.Warnings.{is_unsaid}
use Rattle.court_file_check.proofs.warnings.closings.unsaid_closings.Given as goal

-- the list has those of the closings so far of which the text doesn't have the date
abbrev pub invariant-loop-closing : goal.invariant-loop-closing
invariant-loop-closing l = map closing_view l.found.items ≡ filter (is_unsaid l.days l.text) (map closing_view (take l.closing-index l.closed))
