-- What is written of a run that is one of many.
use Rattle.std.specs.Prelude.{◌≡◌, ℕ, List, [], ◌∷◌, ◌++◌, Some, Result, Ok, Err, codes}
use Rattle.program_runs.specs.declared.fault.OfficeFault.{OfficeFault}
use Rattle.program_runs.specs.Words.{fault_text, input_of}
use Rattle.clerk_program.specs.Words.{IsRun}

-- the line with a run's name
abbrev pub name_line : (name : List ℕ) → List ℕ
name_line name = codes "%%%% " ++ name ++ 10 ∷ []

-- what a run wrote, and the line of its fault where it ended with one
abbrev pub told : (written : List ℕ) → Result (Unit {0}) OfficeFault → List ℕ
told written (Ok done) = written
told written (Err fault) = written ++ fault_text fault ++ 10 ∷ []

-- The line with the run's name is added, and what a run of an office writes and answers for that input, with these clerks and a journal of
-- no more entries than `journal`.
pub record AppendsRun (clerks journal : ℕ) (old new name input : List ℕ) : Type 0 where
  pub answer : Result (Unit {0}) OfficeFault
  pub written : List ℕ
  pub is_run : IsRun clerks journal (Some []) (Some written) answer (input_of clerks input)
  pub appended : new ≡ old ++ name_line name ++ told written answer
