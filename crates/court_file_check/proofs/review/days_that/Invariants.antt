use Rattle.std.proofs.Common.{◌≡◌, filter}
use Rattle.court_file_check.specs.Review.{days_from, passes}
use Rattle.court_file_check.proofs.review.days_that.Given as goal

-- the list has those of the days so far that pass
abbrev pub invariant-loop-place : goal.invariant-loop-place
invariant-loop-place l = l.found.items ≡ filter (passes l.days l.test) (days_from l.days.from l.place)
