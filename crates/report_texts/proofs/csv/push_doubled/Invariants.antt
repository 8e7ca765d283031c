use Rattle.std.proofs.Common.{◌≡◌, ◌++◌, drop}
use Rattle.std.specs.List.{flat_map}
use Rattle.report_texts.specs.Csv.{quote_doubled}
use Rattle.report_texts.proofs.csv.push_doubled.Given as goal

-- what was added, and what is left to add, are the whole text, with each quote twice
abbrev pub invariant-loop-byte : goal.invariant-loop-byte
invariant-loop-byte l = l.bytes.items ++ flat_map quote_doubled (drop l.byte-index l.text) ≡ l.fn.bytes.items ++ flat_map quote_doubled l.text
