use Rattle.std.proofs.Common.{◌≡◌, map, take}
use Rattle.desk_entries.specs.Words.{fault_in}
use Rattle.desk_program.specs.Together.{line_faults_text}
use Rattle.desk_program.proofs.together.faults_listed.Given as goal

-- the text of the faults so far
abbrev pub invariant-loop-fault : goal.invariant-loop-fault
invariant-loop-fault l = l.text.items ≡ line_faults_text (map fault_in (take l.fault-index l.faults))
