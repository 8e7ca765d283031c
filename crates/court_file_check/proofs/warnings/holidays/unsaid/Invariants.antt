use Rattle.std.proofs.Common.{◌≡◌, filter, take}
use Rattle.court_file_check.specs.Warnings.{is_day_unsaid}
use Rattle.court_file_check.proofs.warnings.holidays.unsaid.Given as goal

-- the list has those of the days so far whose dates the text doesn't have
abbrev pub invariant-loop-day : goal.invariant-loop-day
invariant-loop-day l = l.found.items ≡ filter (is_day_unsaid l.text) (take l.day-index l.days)
