use Rattle.std.proofs.Common.{◌≡◌, false, drop}
use Rattle.case_numbers.specs.Forms.{are_groups}
use Rattle.case_numbers.proofs.initials.are_groups.Given as goal

-- the bytes that are left decide
abbrev pub invariant-loop-byte : goal.invariant-loop-byte
invariant-loop-byte l = are_groups l.letter (drop l.byte-index l.text) ≡ are_groups false l.text
