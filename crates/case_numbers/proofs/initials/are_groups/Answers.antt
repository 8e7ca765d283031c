use Rattle.std.proofs.Common.{◌∙◌, ◌≡◌, ◌==◌, ◌&&◌, arith, false, get_or, refl, sym}
use Rattle.std.proofs.lemmas.Bool.Decides.{nat_tests}
use Rattle.case_numbers.proofs.GroupLemmas.{groups_dash, groups_end, groups_letter, groups_other}
use Rattle.case_numbers.proofs.initials.are_groups.Goals as goal
use Rattle.case_numbers.proofs.initials.are_groups.Goals.{else-is_ascii_alphabetic+then-letter+then-byte-eq45, else-letter-via-else-letter, else-letter-via-then-letter+else-byte-eq45, then-is_ascii_alphabetic}

pub returns-else-letter : goal.returns-else-letter
returns-else-letter c =
    let i = c.loop-byte.byte-index in
    let no_letter = sym c.is_ascii_alphabetic.ensures.value ∙ c.if-is_ascii_alphabetic.false in
    let no_dash : (c.loop-byte.letter && (get_or c.args.text.now i 0 == 45)) ≡ false =
    elim c.else-letter.branch [
      | else-letter-via-then-letter+else-byte-eq45 w ↦ grind (arith, nat_tests)
      | else-letter-via-else-letter w ↦ rw w.if-letter.false refl
    ] in
    sym (groups_other c.args.text.now i c.loop-byte.letter c.loop-byte-test.true no_letter no_dash) ∙ c.loop-byte.invariant

pub loop-byte-preserved : goal.loop-byte-preserved
loop-byte-preserved c =
    let i = c.loop-byte.byte-index in
    elim c.if-is_ascii_alphabetic.branch [
      | then-is_ascii_alphabetic w ↦
          rw w.letter-is (sym (groups_letter c.args.text.now i c.loop-byte.letter c.loop-byte-test.true (sym c.is_ascii_alphabetic.ensures.value ∙ w.if-is_ascii_alphabetic.true)) ∙ c.loop-byte.invariant)
      | else-is_ascii_alphabetic+then-letter+then-byte-eq45 w ↦
          rw w.letter-is (sym (groups_dash c.args.text.now i c.loop-byte-test.true (sym c.is_ascii_alphabetic.ensures.value ∙ w.if-is_ascii_alphabetic.false) w.if-byte-eq45.true) ∙ rw w.if-letter.true at c.loop-byte.invariant)
    ]

pub returns : goal.returns
returns c = sym (groups_end c.args.text.now c.loop-byte.byte-index c.loop-byte.letter c.loop-byte-test.false) ∙ c.loop-byte.invariant
