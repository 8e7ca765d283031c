use Rattle.std.proofs.Common.{◌≡◌, ◌+◌, ◌≤◌, take, count_by}
use Rattle.court_file_check.specs.Places.Place.{is_line_end, last_line, starts_character}
use Rattle.court_file_check.proofs.places.place.place_after.Given as goal

-- the line and the column of the place after the bytes so far
abbrev pub invariant-loop-byte : goal.invariant-loop-byte
invariant-loop-byte l = record {
  line : l.line ≡ 1 + count_by is_line_end (take l.byte-index l.before);
  column : l.column ≡ 1 + count_by starts_character (last_line (take l.byte-index l.before));
  small_line : l.line ≤ 1 + l.byte-index;
  small_column : l.column ≤ 1 + l.byte-index;
}
