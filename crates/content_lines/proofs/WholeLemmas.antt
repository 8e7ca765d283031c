-- No fold is inside a character.
use Rattle.std.proofs.Common.{◌≡◌, ◌<◌, ◌-◌, inl, inr, ◌∙◌, ℕ, Bool, true, false, not, ◌&&◌, ◌==◌, nat_le, nat_lt, List, [], ◌∷◌, ◌++◌, refl, sym, ap, arith, leb-true, leb-false}
use Rattle.std.specs.List.{list_all}
use Rattle.std.proofs.lemmas.Bool.{cases_Bool, and_parts}
use Rattle.std.proofs.lemmas.Bool.Decides.{nat_tests}
use Rattle.content_lines.specs.Folding.{begins_with_blank, folded, is_content_line, is_inside, width}
use Rattle.content_lines.specs.Property.{sent}
use Rattle.content_lines.specs.Laws.{FoldsAreBetweenCharacters}
use Rattle.content_lines.proofs.CharacterLemmas.{folded-breaks, folded-fits}
use Rattle.content_lines.proofs.FoldingLemmas.{folded-none, inside_no_return, sent-begins, sent_line-ends}

abbrev follows_lead : ℕ → Bool
follows_lead b = nat_le 128 b && nat_lt b 192

abbrev cuts : (a b c d : ℕ) → Bool
cuts a b c d = a == 13 && b == 10 && c == 32 && follows_lead d

-- no fold of the text is inside a character
uncut : List ℕ → Bool
uncut [] = true
uncut (a ∷ []) = true
uncut (a ∷ b ∷ []) = true
uncut (a ∷ b ∷ c ∷ []) = true
uncut (a ∷ b ∷ c ∷ d ∷ rest) = not (cuts a b c d) && uncut (b ∷ c ∷ d ∷ rest)

uncut-none : uncut [] ≡ true
unfolding uncut
uncut-none = refl

uncut-tail : (a : ℕ) (xs : List ℕ) → uncut (a ∷ xs) ≡ true → uncut xs ≡ true
unfolding uncut
uncut-tail a [] is = refl
uncut-tail a (b ∷ []) is = refl
uncut-tail a (b ∷ c ∷ []) is = refl
uncut-tail a (b ∷ c ∷ d ∷ xs) is = (and_parts (not (cuts a b c d)) (uncut (b ∷ c ∷ d ∷ xs)) is).1

-- a byte that is no carriage return begins no fold
uncut-other : (a : ℕ) (xs : List ℕ) → (a == 13) ≡ false → uncut (a ∷ xs) ≡ uncut xs
unfolding uncut
uncut-other a [] other = refl
uncut-other a (b ∷ []) other = refl
uncut-other a (b ∷ c ∷ []) other = refl
uncut-other a (b ∷ c ∷ d ∷ xs) other = rw other refl

at_front : (b : ℕ) (back : List ℕ) → uncut (13 ∷ 10 ∷ 32 ∷ b ∷ back) ≡ true → follows_lead b ≡ false
unfolding uncut
at_front b back is = turned (follows_lead b) (and_parts (not (follows_lead b)) (uncut (10 ∷ 32 ∷ b ∷ back)) is).0 where
  turned : (t : Bool) → not t ≡ true → t ≡ false
  turned true e = sym e
  turned false e = refl

whole : (front back : List ℕ) (b : ℕ) → uncut (front ++ 13 ∷ 10 ∷ 32 ∷ b ∷ back) ≡ true → follows_lead b ≡ false
whole [] back b is = at_front b back is
whole (a ∷ front) back b is = whole front back b (uncut-tail a (front ++ 13 ∷ 10 ∷ 32 ∷ b ∷ back) is)

-- a line end that no blank follows
uncut-end : (more : List ℕ) → begins_with_blank more ≡ false → uncut (13 ∷ 10 ∷ more) ≡ uncut more
unfolding uncut
uncut-end [] begins = refl
uncut-end (c ∷ []) begins = refl
uncut-end (c ∷ d ∷ xs) begins =
    let no_space : (c == 32) ≡ false = grind (arith, nat_tests) in
    rw no_space (uncut-other 10 (c ∷ d ∷ xs) refl)

uncut-fold : (b : ℕ) (xs : List ℕ) → follows_lead b ≡ false → uncut (13 ∷ 10 ∷ 32 ∷ b ∷ xs) ≡ uncut (b ∷ xs)
unfolding uncut
uncut-fold b xs lead = rw lead (uncut-other 10 (32 ∷ b ∷ xs) refl ∙ uncut-other 32 (b ∷ xs) refl)

leads : (room b : ℕ) → room < width b → follows_lead b ≡ false
leads room b wide = grind (arith, nat_tests)

uncut-folded : (room : ℕ) (line more : List ℕ) → list_all is_inside line ≡ true → begins_with_blank more ≡ false → uncut more ≡ true → uncut (folded room line ++ 13 ∷ 10 ∷ more) ≡ true
uncut-folded room [] more inside begins is = rw (folded-none room) (uncut-end more begins ∙ is)
uncut-folded room (b ∷ bs) more inside begins is =
    let both = and_parts (is_inside b) (list_all is_inside bs) inside in
    let no_return = inside_no_return b both.0 in
    elim (cases_Bool (nat_le (width b) room)) [
      | inl fits ↦
          rw (folded-fits room b bs (leb-true (width b) room fits))
          (uncut-other b (folded (room - 1) bs ++ 13 ∷ 10 ∷ more) no_return ∙ uncut-folded (room - 1) bs more both.1 begins is)
      | inr breaks ↦
          let wide = leb-false (width b) room breaks in
          rw (folded-breaks room b bs wide)
          (uncut-fold b (folded 73 bs ++ 13 ∷ 10 ∷ more) (leads room b wide) ∙ uncut-other b (folded 73 bs ++ 13 ∷ 10 ∷ more) no_return ∙ uncut-folded 73 bs more both.1 begins is)
    ]

uncut-sent : (lines : List (List ℕ)) → list_all is_content_line lines ≡ true → uncut (sent lines) ≡ true
uncut-sent [] are = uncut-none
uncut-sent (line ∷ lines) are =
    let both = and_parts (is_content_line line) (list_all is_content_line lines) are in
    let inside = (and_parts (list_all is_inside line) (not (begins_with_blank line)) both.0).0 in
    ap uncut (sent_line-ends line (sent lines)) ∙ uncut-folded 75 line (sent lines) inside (sent-begins lines both.1) (uncut-sent lines both.1)

pub folds_are_between_characters : FoldsAreBetweenCharacters
folds_are_between_characters lines are front back b is = whole front back b (ap uncut (sym is) ∙ uncut-sent lines are)
