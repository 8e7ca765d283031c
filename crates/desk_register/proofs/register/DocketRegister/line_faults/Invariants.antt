use Rattle.std.proofs.Common.{◌≡◌, ◌+◌, ◌≤◌, ◌++◌, [], ℕ, List, length, map}
use Rattle.desk_session.specs.Words.{numbered_from, numbered_lines, unmarked_lines}
use Rattle.desk_register.specs.LineFaults.{CountsAs, fault_in, faults_of}
use Rattle.desk_register.specs.Register.{IsReadyAt}
use Rattle.desk_register.proofs.register.DocketRegister.line_faults.Given as goal

-- the faults of the input are those that were found and those of what is left, after the entries that there would be
abbrev pub invariant-loop-split : goal.invariant-loop-split
invariant-loop-split l =
    (l.number + length l.rest ≤ length l.input + 1)
    × ((kept : List (List ℕ)) → IsReadyAt l.under l.self kept →
    (then : List (List ℕ)) × CountsAs l.under then l.reading.count l.reading.cases
    × (map fault_in l.reading.faults.items ++ faults_of l.under then (unmarked_lines l.marked (numbered_from l.number [] l.rest)) ≡ faults_of l.under kept (unmarked_lines l.marked (numbered_lines l.input))))

abbrev pub decreases-loop-split : goal.decreases-loop-split
decreases-loop-split l = length l.rest
