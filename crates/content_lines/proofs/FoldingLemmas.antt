-- Unfolding gives the lines back.
use Rattle.std.proofs.Common.{◌≡◌, ◌≤◌, ◌-◌, inl, inr, ◌∙◌, ℕ, Bool, true, false, not, ◌==◌, nat_le, List, [], ◌∷◌, ◌++◌, append_assoc, refl, sym, ap, arith, leb-true, leb-false}
use Rattle.std.specs.List.{flat_map, list_all}
use Rattle.std.proofs.lemmas.Bool.{cases_Bool, and_parts}
use Rattle.std.proofs.lemmas.Bool.Decides.{nat_tests}
use Rattle.content_lines.specs.Folding.{begins_with_blank, ended_line, folded, is_content_line, is_inside, sent_line, unfolded, width}
use Rattle.content_lines.specs.Property.{sent}
use Rattle.content_lines.specs.Laws.{UnfoldingGivesTheLines}
use Rattle.content_lines.proofs.CharacterLemmas.{folded-breaks, folded-fits}

pub folded-none : (room : ℕ) → folded room [] ≡ []
unfolding folded
folded-none room = refl

unfolded-none : unfolded [] ≡ []
unfolding unfolded
unfolded-none = refl

-- a byte that is no carriage return begins no fold
unfolded-other : (a : ℕ) (xs : List ℕ) → (a == 13) ≡ false → unfolded (a ∷ xs) ≡ a ∷ unfolded xs
unfolding unfolded
unfolded-other a [] other = refl
unfolded-other a (b ∷ []) other = refl
unfolded-other a (b ∷ c ∷ xs) other = rw other refl

unfolded-fold : (xs : List ℕ) → unfolded (13 ∷ 10 ∷ 32 ∷ xs) ≡ unfolded xs
unfolding unfolded
unfolded-fold xs = refl

-- a line end that no blank follows stays
unfolded-end : (xs : List ℕ) → begins_with_blank xs ≡ false → unfolded (13 ∷ 10 ∷ xs) ≡ 13 ∷ 10 ∷ unfolded xs
unfolding unfolded
unfolded-end [] begins = refl
unfolded-end (c ∷ xs) begins = rw begins (ap (λ r. 13 ∷ r) (unfolded-other 10 (c ∷ xs) refl))

pub inside_no_return : (b : ℕ) → is_inside b ≡ true → (b == 13) ≡ false
inside_no_return b inside = grind (arith, nat_tests)

-- what was folded is the line
pub unfolded-folded : (room : ℕ) (line more : List ℕ) → list_all is_inside line ≡ true → begins_with_blank more ≡ false → unfolded (folded room line ++ 13 ∷ 10 ∷ more) ≡ line ++ 13 ∷ 10 ∷ unfolded more
unfolded-folded room [] more inside begins = rw (folded-none room) (unfolded-end more begins)
unfolded-folded room (b ∷ bs) more inside begins =
    let both = and_parts (is_inside b) (list_all is_inside bs) inside in
    let no_return = inside_no_return b both.0 in
    elim (cases_Bool (nat_le (width b) room)) [
      | inl fits ↦
          rw (folded-fits room b bs (leb-true (width b) room fits))
          (unfolded-other b (folded (room - 1) bs ++ 13 ∷ 10 ∷ more) no_return ∙ ap (λ r. b ∷ r) (unfolded-folded (room - 1) bs more both.1 begins))
      | inr breaks ↦
          rw (folded-breaks room b bs (leb-false (width b) room breaks))
          (unfolded-fold (b ∷ (folded 73 bs ++ 13 ∷ 10 ∷ more)) ∙ unfolded-other b (folded 73 bs ++ 13 ∷ 10 ∷ more) no_return ∙ ap (λ r. b ∷ r) (unfolded-folded 73 bs more both.1 begins))
    ]

-- what is sent of a line that begins with no blank begins with none
pub sent_line-ends : (line more : List ℕ) → sent_line line ++ more ≡ folded 75 line ++ 13 ∷ 10 ∷ more
unfolding sent_line
sent_line-ends line more = append_assoc (folded 75 line) (13 ∷ 10 ∷ []) more

narrow : (b : ℕ) → width b ≤ 75
narrow b = grind (arith, nat_tests)

sent_line-begins : (line more : List ℕ) → begins_with_blank line ≡ false → begins_with_blank (folded 75 line ++ 13 ∷ 10 ∷ more) ≡ false
sent_line-begins [] more begins = rw (folded-none 75) refl
sent_line-begins (b ∷ bs) more begins = rw (folded-fits 75 b bs (narrow b)) begins

content_begins : (line : List ℕ) → is_content_line line ≡ true → begins_with_blank line ≡ false
content_begins line is = turned (begins_with_blank line) (and_parts (list_all is_inside line) (not (begins_with_blank line)) is).1 where
  turned : (b : Bool) → not b ≡ true → b ≡ false
  turned true e = sym e
  turned false e = refl

pub sent-begins : (lines : List (List ℕ)) → list_all is_content_line lines ≡ true → begins_with_blank (sent lines) ≡ false
sent-begins [] are = refl
sent-begins (line ∷ lines) are =
    let both = and_parts (is_content_line line) (list_all is_content_line lines) are in
    rw (sent_line-ends line (sent lines)) (sent_line-begins line (sent lines) (content_begins line both.0))

pub unfolding_gives_the_lines : UnfoldingGivesTheLines
unfolding_gives_the_lines [] are = unfolded-none
unfolding_gives_the_lines (line ∷ lines) are =
    let both = and_parts (is_content_line line) (list_all is_content_line lines) are in
    let inside = (and_parts (list_all is_inside line) (not (begins_with_blank line)) both.0).0 in
    ap unfolded (sent_line-ends line (sent lines))
    ∙ unfolded-folded 75 line (sent lines) inside (sent-begins lines both.1)
    ∙ ap (λ r. line ++ 13 ∷ 10 ∷ r) (unfolding_gives_the_lines lines both.1)
    ∙ sym (append_assoc line (13 ∷ 10 ∷ []) (flat_map ended_line lines))
