use Rattle.std.proofs.Common.{◌≡◌, ◌∙◌, unsigned_abs, pos, to_z-of_z, ◌+◌, ◌-◌, ◌*◌, ◌%◌, ◌+ℤ◌, ℤ}
use Rattle.jiff_core.specs.Calendar.{days_from_civil}
use Rattle.jiff_core.specs.Weekday.{monday_zero}
use Rattle.court_clock.specs.Words.{weekday_of}
use Rattle.court_holidays.proofs.DateLemmas.{nth_from_first}
use Rattle.court_holidays.proofs.dates.nth_weekday.Goals as goal

pub returns-clause-value : goal.returns-clause-value
returns-clause-value c =
    let year = to_z-of_z c.ranges.year in
    let month = to_z-of_z c.ranges.month in
    let start : ℤ = days_from_civil c.args.year (unsigned_abs c.args.month) 1 in
    let first : c.on-first.result ≡ start = rw (year, month) at c.on-first.ensures.value in
    let is : c.later.result ≡ start +ℤ pos ((monday_zero c.args.weekday + 7 - weekday_of start) % 7 + 7 * (c.args.nth - 1)) = rw (c.index.ensures.value, c.weekday.ensures, first) at c.later.ensures in
    is ∙ nth_from_first c.args.nth (unsigned_abs c.args.month) c.args.weekday c.args.year c.requires.nth_in.0
