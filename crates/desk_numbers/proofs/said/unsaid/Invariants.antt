use Rattle.std.proofs.Common.{◌≡◌, ◌+◌, ◌<◌, ◌++◌, drop, length, min}
use Rattle.std.specs.Prelude.{All}
use Rattle.desk_numbers.specs.Said.{unsaid}
use Rattle.desk_numbers.specs.Strikes.SaidText.{Fits}
use Rattle.desk_numbers.proofs.said.unsaid.Given as goal

-- what is to be said of the rows so far, and of the others
abbrev pub invariant-given : goal.invariant-given
invariant-given l = record {
  row : l.row ≡ min (l.of_row-index + 1) 4_294_967_295;
  whole : length l.given < 4_294_967_296 → l.said.items ++ unsaid l.kept (drop l.of_row-index l.given) (l.of_row-index + 1) ≡ unsaid l.kept l.given 1;
  fits : All Fits l.said.items;
}
