use Rattle.std.proofs.Common.{◌∙◌, arith}
use Rattle.court_file_check.proofs.places.PlaceLemmas.{next_line, next_column}
use Rattle.court_file_check.proofs.places.place.place_after.Goals as goal

pub loop-byte-preserved : goal.loop-byte-preserved
loop-byte-preserved c = record {
  line = c.line_after-line.ensures ∙ next_line c.args.before.now c.loop-byte.byte-index c.loop-byte.line c.loop-byte-test.true c.loop-byte.invariant.line;
  column = c.column_after-column.ensures ∙ next_column c.args.before.now c.loop-byte.byte-index c.loop-byte.column c.loop-byte-test.true c.loop-byte.invariant.column;
  small_line = grind arith;
  small_column = grind arith;
}
