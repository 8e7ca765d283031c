use Rattle.std.proofs.Common.{◌≡◌}
use Rattle.std.specs.List.{list_any}
use Rattle.court_days.specs.Words.{is_among}
use Rattle.court_file_check.specs.Review.{days_from}
use Rattle.court_file_check.proofs.warnings.years.has_day.Given as goal

-- whether one of the days so far is in the list
abbrev pub invariant-loop-place : goal.invariant-loop-place
invariant-loop-place l = l.found ≡ list_any (is_among l.days.federal) (days_from l.first l.place)
