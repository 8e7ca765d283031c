use Rattle.std.proofs.Common.{◌≡◌, ◌++◌, map, string_bytes, drop}
use Rattle.court_writing.specs.Own.{texts}
use Rattle.court_writing.proofs.own.texts_of.Given as goal

-- the texts so far, and those of the names that are left, are those of all names
abbrev pub invariant-loop-name : goal.invariant-loop-name
invariant-loop-name l = (texts l.found.items ++ map string_bytes (drop l.name-index l.names)) ≡ map string_bytes l.names
