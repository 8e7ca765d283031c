use Rattle.std.proofs.Common.{◌≡◌, drop}
use Rattle.std.specs.Prelude.{string_bytes}
use Rattle.csv.specs.Records.{fields_of}
use Rattle.row_fields.specs.Dates.{date_words, words_after}
use Rattle.row_fields.proofs.dates.date_words.Given as goal

-- the words that are ended, the one that is begun and what is left of the text make its words
abbrev pub invariant-loop-byte : goal.invariant-loop-byte
invariant-loop-byte l = words_after (fields_of l.words) (string_bytes l.word) (drop l.byte-index l.bytes) ≡ date_words l.bytes
