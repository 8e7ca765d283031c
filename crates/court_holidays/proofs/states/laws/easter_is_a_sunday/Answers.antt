use Rattle.court_holidays.proofs.EasterLemmas.{easter_is_a_sunday}
use Rattle.court_holidays.proofs.states.laws.easter_is_a_sunday.Goals as goal

pub returns : goal.returns
returns c = easter_is_a_sunday
