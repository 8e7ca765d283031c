use Rattle.court_holidays.proofs.WeekdayLemmas.{last_weekdays_are_last}
use Rattle.court_holidays.proofs.federal.laws.last_weekdays_are_last.Goals as goal

pub returns : goal.returns
returns c = last_weekdays_are_last
