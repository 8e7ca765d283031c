use Rattle.std.proofs.Common.{◌≡◌, take}
use Rattle.std.specs.List.{list_any}
use Rattle.std.specs.Str.{bytes_eq}
use Rattle.court_file_check.specs.Inside.Names.{texts_of}
use Rattle.court_file_check.proofs.faults.names.is_named.Given as goal

-- whether the text is one of the names so far
abbrev pub invariant-loop-name : goal.invariant-loop-name
invariant-loop-name l = l.found ≡ list_any (bytes_eq l.text) (texts_of (take l.name-index l.names))
