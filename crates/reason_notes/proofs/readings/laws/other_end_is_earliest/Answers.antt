use Rattle.reason_notes.specs.Readings.Others.{other_by, other_end}
use Rattle.reason_notes.proofs.ReadingsLemmas.EarliestLemmas.{given_by, none_before}
use Rattle.reason_notes.proofs.readings.laws.other_end_is_earliest.Goals as goal

pub returns : goal.returns
unfolding other_end
returns c days clock row end is =
    let gives = other_by days clock row in
    record { given = given_by clock gives end is; least = none_before clock gives end is }
