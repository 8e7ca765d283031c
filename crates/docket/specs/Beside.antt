-- What ends a look at a journal beside another program.
use Rattle.std.specs.Prelude.{◌≡◌, ⊤, ℕ, List, Option, Some, string_bytes}
use Rattle.desk_program.specs.declared.faults.desk.DeskFault.TheVariants.{OutOfMemory}
use Rattle.docket.specs.declared.fault.Fault.{Fault}
use Rattle.docket.specs.declared.fault.Fault.TheVariants.{Desk, Unusable}

-- where this is said of the first entry of an earlier time than the one before it, that line, and nothing else but that memory ran out
abbrev pub IsTimesFault : (said : Option (List ℕ)) → Fault → Type 0
IsTimesFault said (Unusable line) = said ≡ Some (string_bytes line)
IsTimesFault said (Desk OutOfMemory) = ⊤
IsTimesFault said other = ⊥
