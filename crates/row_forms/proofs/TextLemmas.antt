-- Whether each field of a row is text: the test, and what csv says.
use Rattle.std.proofs.Common.{◌≡◌, ◌&&◌, ℕ, Bool, true, false, List, [], ◌∷◌, refl}
use Rattle.std.specs.List.{list_all}
use Rattle.std.specs.Str.{is_utf8}
use Rattle.std.proofs.lemmas.Str.{IsUtf8-from_is_utf8, is_utf8-from_IsUtf8}
use Rattle.csv.specs.Records.{AllText}

pub text_passes : (fields : List (List ℕ)) → AllText fields → list_all is_utf8 fields ≡ true
unfolding AllText
text_passes [] h = refl
text_passes (f ∷ fields) h = rw (is_utf8-from_IsUtf8 f h.0, text_passes fields h.1) refl

pub else_fails : (fields : List (List ℕ)) → (AllText fields → ⊥) → list_all is_utf8 fields ≡ false
unfolding AllText
else_fails [] no_text = absurd (no_text tt)
else_fails (f ∷ fields) no_text = by (is_utf8 f) refl (else_fails fields)
  where
    by : (first : Bool) → is_utf8 f ≡ first → ((AllText fields → ⊥) → list_all is_utf8 fields ≡ false) → (first && list_all is_utf8 fields) ≡ false
    by true is more = more (λ texts. no_text (IsUtf8-from_is_utf8 f is, texts))
    by false is more = refl
