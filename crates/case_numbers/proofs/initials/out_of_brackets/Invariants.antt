use Rattle.std.proofs.Common.{◌≡◌, ◌-◌, ◌∷◌, length, map, take}
use Rattle.case_numbers.specs.Forms.{as_dash}
use Rattle.case_numbers.proofs.initials.out_of_brackets.Given as goal

-- the bytes so far, after a dash
abbrev pub invariant-loop-byte : goal.invariant-loop-byte
invariant-loop-byte l = l.text.items ≡ 45 ∷ map as_dash (take l.byte-index (take (length l.inner - 1) l.inner))
