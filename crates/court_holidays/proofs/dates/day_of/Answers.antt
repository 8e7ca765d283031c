use Rattle.std.proofs.Common.{◌≡◌, rules}
use Rattle.jiff_core.specs.Date.{epoch_day}
use Rattle.court_holidays.proofs.DateLemmas.{stated_near}
use Rattle.court_holidays.proofs.dates.day_of.Goals as goal

pub returns-clause-near : goal.returns-clause-near
returns-clause-near c =
    let is : c.in-Some.day ≡ epoch_day c.args.date = search rules in
    stated_near c.args.date c.in-Some.day c.requires.0 c.requires.1 is
