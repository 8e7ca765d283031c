use Rattle.std.proofs.Common.{◌≡◌, pos, w32, of_z, to_z, ap, ◌∙◌, arith}
use Rattle.std.proofs.lemmas.Int.{ints}
use Rattle.jiff_core.specs.Date.{epoch_day, IsYmd}
use Rattle.court_clock.proofs.ClockLemmas.YearLemmas.{last_of_year_is}
use Rattle.court_clock.proofs.clock.stretch.last_of_year.Goals as goal

pub returns : goal.returns
returns c =
    let value : epoch_day c.in-Ok.date ≡ c.args.day = omega (arith, ints, c.in-Ok.ensures.value, c.from.ensures, c.requires.0, c.requires.1) in
    let ymd : IsYmd c.in-Ok.date.year (pos 12) (pos 31) c.last_of_year.result = rw c.from_plain-date.ensures at c.last_of_year.ensures in
    let same : to_z w32 (of_z w32 c.to_unix_epoch_day.result) ≡ c.to_unix_epoch_day.result = omega (arith, ints, c.to_unix_epoch_day.ensures.bound) in
    rw same (last_of_year_is c.args.day c.in-Ok.date c.last_of_year.result c.to_unix_epoch_day.result c.requires.0 c.requires.1 value ymd (c.to_unix_epoch_day.ensures.value ∙ ap epoch_day c.to_plain.ensures))
