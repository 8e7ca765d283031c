use Rattle.court_clock.proofs.DayLemmas.DateLemmas.{days_have_dates}
use Rattle.court_clock.proofs.laws.days_have_dates.Goals as goal

pub returns : goal.returns
returns c = days_have_dates
