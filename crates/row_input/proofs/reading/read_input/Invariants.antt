use Rattle.std.proofs.Common.{◌≡◌, ◌+◌, ◌≤◌, ◌++◌, [], length, map}
use Rattle.std.specs.Prelude.{None, option_map}
use Rattle.csv.specs.Records.{fields_of}
use Rattle.desk_session.specs.Words.{numbered_from, numbered_lines}
use Rattle.row_forms.specs.Words.{names_of}
use Rattle.row_input.specs.Reading.{faulty_in, faulty_of, placed_from, rows_of}
use Rattle.row_input.proofs.reading.read_input.Given as goal

-- what is read of the input is what was read so far and what is left
abbrev pub invariant-loop-split : goal.invariant-loop-split
invariant-loop-split l =
    let names = names_of l.court in
    let own = l.court.periods.triggers in
    let header = option_map fields_of l.reading.header in
    (l.number + length l.rest ≤ length l.input + 1)
    × (l.reading.rows.items ++ rows_of l.clerks names own l.order l.marked header (numbered_from l.number [] l.rest) ≡ rows_of l.clerks names own l.order l.marked None (numbered_lines l.input))
    × (l.reading.placed.items ++ placed_from l.clerks names own l.order l.marked l.joined header [] l.rest ≡ placed_from l.clerks names own l.order l.marked l.joined None [] l.input)
    × (map faulty_in l.reading.faulty.items ++ faulty_of l.clerks names own l.order l.marked header (numbered_from l.number [] l.rest) ≡ faulty_of l.clerks names own l.order l.marked None (numbered_lines l.input))

abbrev pub decreases-loop-split : goal.decreases-loop-split
decreases-loop-split l = length l.rest
