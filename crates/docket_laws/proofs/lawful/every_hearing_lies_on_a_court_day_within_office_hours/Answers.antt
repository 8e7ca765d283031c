use Rattle.docket_laws.proofs.LawfulLemmas.DocketLemmas.{all_are_on_court_days}
use Rattle.docket_laws.proofs.lawful.every_hearing_lies_on_a_court_day_within_office_hours.Goals as goal

pub returns : goal.returns
returns c = all_are_on_court_days
