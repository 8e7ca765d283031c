-- Escaped texts, read back.
use Rattle.std.proofs.Common.{◌≡◌, ◌≢◌, ◌∙◌, ◌++◌, ◌<◌, ℕ, Bool, true, false, List, [], ◌∷◌, inl, inr, refl, sym, ap, subst, lit<}
use Rattle.std.specs.Prelude.{◌==◌}
use Rattle.std.proofs.lemmas.Bool.Decides.{eqb_tells}
use Rattle.page_markup.specs.Escaping.{EscapedIsPlain, EscapedReadsBack, HasNoMarkup, IsPlain, escaped, escaped_byte, read_after, reference_at}

-- a byte that has no meaning in a page
record IsOther (byte : ℕ) : Type 0 where
  ampersand : (byte == 38) ≡ false
  less : (byte == 60) ≡ false
  greater : (byte == 62) ≡ false
  quote : (byte == 34) ≡ false
  apostrophe : (byte == 39) ≡ false

-- what holds of the five bytes that have a meaning, and of each other byte, holds of each byte
by_byte : (P : ℕ → Type 0) → P 38 → P 60 → P 62 → P 34 → P 39 → ((byte : ℕ) → IsOther byte → P byte) → (byte : ℕ) → P byte
by_byte P ampersand less greater quote apostrophe other byte =
    elim (eqb_tells byte 38) [
      | inl is ↦ subst P (sym is.1) ampersand
      | inr a ↦ elim (eqb_tells byte 60) [
        | inl is ↦ subst P (sym is.1) less
        | inr l ↦ elim (eqb_tells byte 62) [
          | inl is ↦ subst P (sym is.1) greater
          | inr g ↦ elim (eqb_tells byte 34) [
            | inl is ↦ subst P (sym is.1) quote
            | inr q ↦ elim (eqb_tells byte 39) [
              | inl is ↦ subst P (sym is.1) apostrophe
              | inr s ↦ other byte (record { ampersand = a.0; less = l.0; greater = g.0; quote = q.0; apostrophe = s.0 })
            ]
          ]
        ]
      ]
    ]

as_it_is : (byte : ℕ) → IsOther byte → escaped_byte byte ≡ byte ∷ []
as_it_is byte o = rw (o.ampersand, o.less, o.greater, o.quote, o.apostrophe) refl

byte_reads_back : (rest : List ℕ) (byte : ℕ) → read_after 0 (escaped_byte byte ++ rest) ≡ byte ∷ read_after 0 rest
unfolding read_after
byte_reads_back rest =
    by_byte (λ byte. read_after 0 (escaped_byte byte ++ rest) ≡ byte ∷ read_after 0 rest) refl refl refl refl refl (λ byte o. rw (as_it_is byte o) (rw o.ampersand refl))

pub reads_back : EscapedReadsBack
unfolding escaped read_after
reads_back [] = refl
reads_back (byte ∷ bytes) = byte_reads_back (escaped bytes) byte ∙ ap (λ text. byte ∷ text) (reads_back bytes)

-- two numbers of which a test says that they differ
differ : (a b : ℕ) → (a == b) ≡ false → a ≢ b
differ a b not_equal = elim (eqb_tells a b) [ inl is ↦ absurd (contradiction is.0 not_equal) | inr n ↦ n.1 ]
  where
    contradiction : {t : Bool} → t ≡ true → t ≡ false → ⊥
    contradiction equal unequal = cc

plain : (byte : ℕ) → (byte == 60) ≡ false → (byte == 62) ≡ false → (byte == 34) ≡ false → (byte == 39) ≡ false → IsPlain byte
plain byte less greater quote apostrophe = record {
  no_tag = differ byte 60 less;
  no_end = differ byte 62 greater;
  no_quote = differ byte 34 quote;
  no_apostrophe = differ byte 39 apostrophe;
}

-- with a byte before it that has no meaning in a page
before : (byte : ℕ) (text : List ℕ) → IsOther byte → HasNoMarkup text → HasNoMarkup (byte ∷ text)
before byte text o bare = (plain byte o.less o.greater o.quote o.apostrophe, (λ is. absurd (differ byte 38 o.ampersand is)), bare)

-- with a letter of a reference before it
letter : (byte : ℕ) (text : List ℕ) → (byte == 38) ≡ false → (byte == 60) ≡ false → (byte == 62) ≡ false → (byte == 34) ≡ false → (byte == 39) ≡ false → HasNoMarkup text → HasNoMarkup (byte ∷ text)
letter byte text a l g q s bare = before byte text (record { ampersand = a; less = l; greater = g; quote = q; apostrophe = s }) bare

-- with the `&` of a reference before it
reference : (text : List ℕ) → 0 < (reference_at text).length → HasNoMarkup text → HasNoMarkup (38 ∷ text)
reference text begins bare = (plain 38 refl refl refl refl, (λ is. begins), bare)

byte_is_bare : (rest : List ℕ) → HasNoMarkup rest → (byte : ℕ) → HasNoMarkup (escaped_byte byte ++ rest)
byte_is_bare rest bare =
    let semicolon = letter 59 rest refl refl refl refl refl bare in
    let t = letter 116 (59 ∷ rest) refl refl refl refl refl semicolon in
    by_byte (λ byte. HasNoMarkup (escaped_byte byte ++ rest))
    (reference (97 ∷ 109 ∷ 112 ∷ 59 ∷ rest) (lit< tt) (letter 97 (109 ∷ 112 ∷ 59 ∷ rest) refl refl refl refl refl (letter 109 (112 ∷ 59 ∷ rest) refl refl refl refl refl (letter 112 (59 ∷ rest) refl refl refl refl refl semicolon))))
    (reference (108 ∷ 116 ∷ 59 ∷ rest) (lit< tt) (letter 108 (116 ∷ 59 ∷ rest) refl refl refl refl refl t))
    (reference (103 ∷ 116 ∷ 59 ∷ rest) (lit< tt) (letter 103 (116 ∷ 59 ∷ rest) refl refl refl refl refl t))
    (reference (113 ∷ 117 ∷ 111 ∷ 116 ∷ 59 ∷ rest) (lit< tt) (letter 113 (117 ∷ 111 ∷ 116 ∷ 59 ∷ rest) refl refl refl refl refl (letter 117 (111 ∷ 116 ∷ 59 ∷ rest) refl refl refl refl refl (letter 111 (116 ∷ 59 ∷ rest) refl refl refl refl refl t))))
    (reference (35 ∷ 51 ∷ 57 ∷ 59 ∷ rest) (lit< tt) (letter 35 (51 ∷ 57 ∷ 59 ∷ rest) refl refl refl refl refl (letter 51 (57 ∷ 59 ∷ rest) refl refl refl refl refl (letter 57 (59 ∷ rest) refl refl refl refl refl semicolon))))
    (λ byte o. let P : List ℕ → Type 0 = λ text. HasNoMarkup (text ++ rest) in subst P (sym (as_it_is byte o)) (before byte rest o bare))

pub is_plain : EscapedIsPlain
unfolding escaped
is_plain [] = tt
is_plain (byte ∷ bytes) = byte_is_bare (escaped bytes) (is_plain bytes) byte
