use Rattle.reason_notes.specs.Readings.Lines.{reading_lines}
use Rattle.reason_notes.specs.Readings.Others.{all_readings, other_by, other_end}
use Rattle.reason_notes.proofs.ReadingsLemmas.OtherLemmas.{none_lined}
use Rattle.reason_notes.proofs.readings.laws.no_other_end_has_no_line.Goals as goal

pub returns : goal.returns
unfolding other_end reading_lines
returns c days clock row = none_lined clock (other_by days clock row) all_readings
