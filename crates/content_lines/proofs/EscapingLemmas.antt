-- Escaped texts are read back, and have no line end.
use Rattle.std.proofs.Common.{◌≡◌, inl, inr, ◌∙◌, ℕ, true, false, ◌==◌, List, [], ◌∷◌, ◌++◌, refl, sym, ap, arith}
use Rattle.std.specs.List.{list_all}
use Rattle.std.proofs.lemmas.Bool.{cases_Bool, and_parts, eqb-true}
use Rattle.std.proofs.lemmas.Bool.Decides.{nat_tests}
use Rattle.std.proofs.lemmas.List.Folds.{list_all-append}
use Rattle.content_lines.specs.Escaping.{escaped, escaped_byte, is_control, is_kept, is_special, meant, unescaped}
use Rattle.content_lines.specs.Folding.{is_inside}
use Rattle.content_lines.specs.Laws.{EscapedValuesReadBack}

-- a byte that is no backslash is read as itself
unescaped-plain : (b : ℕ) (rest : List ℕ) → (b == 92) ≡ false → unescaped (b ∷ rest) ≡ b ∷ unescaped rest
unfolding unescaped
unescaped-plain b [] plain = refl
unescaped-plain b (c ∷ rest) plain = rw plain refl

unescaped-special : (b : ℕ) (rest : List ℕ) → is_special b ≡ true → unescaped (92 ∷ b ∷ rest) ≡ b ∷ unescaped rest
unfolding unescaped
unescaped-special b rest special =
    let same : meant b ≡ b = grind (arith, nat_tests) in
    ap (λ x. x ∷ unescaped rest) same

unescaped-feed : (rest : List ℕ) → unescaped (92 ∷ 110 ∷ rest) ≡ 10 ∷ unescaped rest
unfolding unescaped
unescaped-feed rest = refl

unescaped-none : unescaped [] ≡ []
unfolding unescaped
unescaped-none = refl

-- one byte is read back
unescaped-byte : (b : ℕ) (rest : List ℕ) → is_kept b ≡ true → unescaped (escaped_byte b ++ rest) ≡ b ∷ unescaped rest
unescaped-byte b rest kept = elim (cases_Bool (b == 10)) [
  | inl feed ↦ rw feed (unescaped-feed rest ∙ ap (λ x. x ∷ unescaped rest) (sym (eqb-true b 10 feed)))
  | inr other ↦ elim (cases_Bool (is_special b)) [
    | inl special ↦ rw (other, special) (unescaped-special b rest special)
    | inr plain ↦
        let shown : is_control b ≡ false = grind (arith, nat_tests) in
        let no_slash : (b == 92) ≡ false = grind (arith, nat_tests) in
        rw (other, plain, shown) (unescaped-plain b rest no_slash)
  ]
]

pub escaped_values_read_back : EscapedValuesReadBack
escaped_values_read_back [] kept = unescaped-none
escaped_values_read_back (b ∷ bs) kept =
    let both = and_parts (is_kept b) (list_all is_kept bs) kept in
    unescaped-byte b (escaped bs) both.0 ∙ ap (λ rest. b ∷ rest) (escaped_values_read_back bs both.1)

-- what is escaped has no line end
inside-byte : (b : ℕ) → list_all is_inside (escaped_byte b) ≡ true
inside-byte b = elim (cases_Bool (b == 10)) [
  | inl feed ↦ rw feed refl
  | inr other ↦ elim (cases_Bool (is_special b)) [
    | inl special ↦ rw (other, special) (grind (arith, nat_tests))
    | inr plain ↦ elim (cases_Bool (is_control b)) [
      | inl control ↦ rw (other, plain, control) refl
      | inr shown ↦ rw (other, plain, shown) (grind (arith, nat_tests))
    ]
  ]
]

pub inside-escaped : (text : List ℕ) → list_all is_inside (escaped text) ≡ true
inside-escaped [] = refl
inside-escaped (b ∷ bs) = list_all-append is_inside (escaped_byte b) (escaped bs) ∙ rw (inside-byte b, inside-escaped bs) refl
