use Rattle.court_holidays.proofs.WeekdayLemmas.{weekdays_are_counted}
use Rattle.court_holidays.proofs.federal.laws.weekdays_are_counted.Goals as goal

pub returns : goal.returns
returns c = weekdays_are_counted
