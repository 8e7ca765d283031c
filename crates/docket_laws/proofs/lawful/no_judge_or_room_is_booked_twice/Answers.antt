use Rattle.docket_laws.proofs.LawfulLemmas.DocketLemmas.{none_is_booked_twice}
use Rattle.docket_laws.proofs.lawful.no_judge_or_room_is_booked_twice.Goals as goal

pub returns : goal.returns
returns c = none_is_booked_twice
