-- Quoted texts, read back.
use Rattle.std.proofs.Common.{◌≡◌, ◌∙◌, ◌++◌, ℕ, true, false, List, [], ◌∷◌, Some, option_map, inl, inr, refl, sym, ap, subst, append_assoc}
use Rattle.std.specs.List.{flat_map}
use Rattle.std.proofs.lemmas.Bool.Decides.{eqb_tells}
use Rattle.report_sql.specs.Literals.{HasNoQuoteFirst, QuotedReadsBack, doubled, quoted, taken_after, with_byte}

-- the quote that ends a literal: what comes after it isn't taken
ended : (rest : List ℕ) → HasNoQuoteFirst rest → taken_after true rest ≡ Some (record { text = []; rest = rest })
unfolding taken_after
ended [] plain = refl
ended (byte ∷ bytes) plain = elim (eqb_tells byte 39) [ inl is ↦ absurd (plain is.1) | inr other ↦ rw other.0 refl ]

-- inside a literal a byte that was doubled is taken as the byte
byte_taken : (byte : ℕ) (more : List ℕ) → taken_after false (doubled byte ++ more) ≡ option_map (with_byte byte) (taken_after false more)
unfolding taken_after
byte_taken byte more = elim (eqb_tells byte 39) [
  | inl is ↦ subst (λ b. taken_after false (doubled b ++ more) ≡ option_map (with_byte b) (taken_after false more)) (sym is.1) refl
  | inr other ↦ rw other.0 (rw other.0 refl)
]

taken : (text rest : List ℕ) → HasNoQuoteFirst rest → taken_after false (flat_map doubled text ++ 39 ∷ rest) ≡ Some (record { text = text; rest = rest })
unfolding taken_after
taken [] rest plain = ended rest plain
taken (byte ∷ bytes) rest plain =
    ap (taken_after false) (append_assoc (doubled byte) (flat_map doubled bytes) (39 ∷ rest))
    ∙ byte_taken byte (flat_map doubled bytes ++ 39 ∷ rest)
    ∙ ap (option_map (with_byte byte)) (taken bytes rest plain)

pub reads_back : QuotedReadsBack
unfolding quoted
reads_back text rest plain = ap (taken_after false) (append_assoc (flat_map doubled text) (39 ∷ []) rest) ∙ taken text rest plain
