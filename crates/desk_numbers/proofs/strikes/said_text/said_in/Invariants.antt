use Rattle.std.proofs.Common.{◌≡◌, ◌++◌, length}
use Rattle.std.specs.Prelude.{filter_map}
use Rattle.desk_numbers.specs.Strikes.SaidText.{said_as, said_in, words_of}
use Rattle.desk_numbers.proofs.strikes.said_text.said_in.Given as goal

-- what is said so far, and by what is left of the line
abbrev pub invariant-line : goal.invariant-line
invariant-line l = l.said.items ++ filter_map said_as (words_of l.line) ≡ said_in l.entry

abbrev pub decreases-line : goal.decreases-line
decreases-line l = length l.line
