use Rattle.std.proofs.Common.{◌≡◌, [], drop}
use Rattle.std.specs.Prelude.{string_bytes}
use Rattle.csv.specs.Records.{fields_of}
use Rattle.row_forms.specs.Words.{names_of}
use Rattle.row_written.specs.Names.{names_after}
use Rattle.row_written.proofs.names.panel_of.Given as goal

abbrev pub invariant-loop-i : goal.invariant-loop-i
invariant-loop-i l = names_after (names_of l.court).shorts (names_of l.court).judges (string_bytes l.names) (drop l.i (fields_of l.pieces)) ≡ names_after (names_of l.court).shorts (names_of l.court).judges [] (fields_of l.pieces)
