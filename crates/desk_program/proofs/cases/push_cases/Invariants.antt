use Rattle.std.proofs.Common.{◌≡◌, ◌++◌, drop, string_bytes}
use Rattle.desk_program.specs.Cases.{cases_text}
use Rattle.desk_program.proofs.cases.push_cases.Given as goal

-- the lines so far, and those of the cases that are left, are all the lines
abbrev pub invariant-loop-case : goal.invariant-loop-case
invariant-loop-case l = string_bytes l.text ++ cases_text (drop l.case-index l.named) ≡ string_bytes l.fn.text ++ cases_text l.named
