use Rattle.std.proofs.Common.{◌≡◌, ◌++◌, drop}
use Rattle.std.specs.Prelude.{string_bytes}
use Rattle.desk_numbers.specs.Strikes.SaidText.{said_text}
use Rattle.desk_numbers.proofs.strikes.said_text.words_of.Given as goal

-- the words so far, and those of the others
abbrev pub invariant-said : goal.invariant-said
invariant-said l = string_bytes l.words ++ said_text (drop l.one-index l.said) ≡ said_text l.said
