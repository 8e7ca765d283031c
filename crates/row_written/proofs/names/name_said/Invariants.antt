use Rattle.std.proofs.Common.{◌≡◌, drop}
use Rattle.std.specs.Prelude.{filter, string_bytes}
use Rattle.row_forms.specs.Words.{names_of}
use Rattle.row_fields.specs.Words.{said_map}
use Rattle.row_written.specs.Names.{chosen, named, said_among, same_name}
use Rattle.row_written.proofs.names.name_said.Given as goal

-- what is said, and the names after it that fit
abbrev pub invariant-loop-number : goal.invariant-loop-number
invariant-loop-number l =
    let names = named (names_of l.court) l.of in
    chosen (said_map (λ n. n.now) l.said) (filter (same_name (string_bytes l.plain)) (drop l.number names)) ≡ said_among (filter (same_name (string_bytes l.plain)) names)
