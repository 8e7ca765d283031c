-- How lines are read, and what is told of their faults.
use Rattle.std.specs.Prelude.{ℕ, Bool, false, if◌then◌else◌}
use Rattle.program_words.specs.declared.task.Lines.{Lines}
use Rattle.program_words.specs.declared.task.Lines.TheVariants.{AsWritten, Plain}
use Rattle.desk_program.specs.declared.faults.desk.DeskFault.TheVariants.{Together}
use Rattle.desk_program.specs.declared.faults.together.TogetherFault.TheVariants.{Faults}
use Rattle.docket.specs.declared.fault.Fault.{Fault}
use Rattle.docket.specs.declared.fault.Fault.TheVariants.{Desk, Told}

-- what is told of lines is JSON
abbrev pub is_json : Lines → Bool
is_json (Plain clerk) = false
is_json (AsWritten style) = style.json

-- the fault of so many lines: where it is told as JSON, standard error has all of it
abbrev pub lines_fault : (json : Bool) → (count : ℕ) → Fault
lines_fault json count = if json then Told 3 else Desk (Together (Faults count))
