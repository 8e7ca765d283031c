use Rattle.std.proofs.Common.{◌≡◌, ◌++◌, map, string_bytes, drop}
use Rattle.clap.specs.Walk.{texts}
use Rattle.program_main.proofs.options.words.texts_of.Given as goal

-- the texts so far, and those of the words that are left, are those of all words
abbrev pub invariant-loop-word : goal.invariant-loop-word
invariant-loop-word l = (texts l.found.items ++ map string_bytes (drop l.word-index l.words)) ≡ map string_bytes l.words
