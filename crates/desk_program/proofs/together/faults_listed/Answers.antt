use Rattle.std.proofs.Common.{◌∙◌, ◌++◌, ℕ, List, ap, sym}
use Rattle.desk_entries.specs.Words.{fault_in}
use Rattle.desk_program.specs.Together.{line_fault_text}
use Rattle.desk_program.proofs.TogetherLemmas.{line_faults_text-more}
use Rattle.desk_program.proofs.together.faults_listed.Goals as goal

pub loop-fault-preserved : goal.loop-fault-preserved
loop-fault-preserved c =
    c.in_ok-push_line_fault.ensures
    ∙ ap (λ (l : List ℕ). l ++ line_fault_text (fault_in c.fault-item.result)) c.loop-fault.invariant
    ∙ sym (line_faults_text-more c.args.faults.now c.loop-fault.fault-index c.fault-item.result c.loop-fault-test.true c.fault-item.is)
