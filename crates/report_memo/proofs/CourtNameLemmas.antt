-- Bytes that are text, and bytes that are none.
use Rattle.std.proofs.Common.{◌≡◌, ◌∙◌, ℕ, Bool, true, false, List, Option, Some, None, ap, refl, sym}
use Rattle.std.specs.Prelude.{if◌then◌else◌}
use Rattle.std.specs.Str.{IsUtf8, is_utf8}
use Rattle.std.proofs.lemmas.Str.{IsUtf8-from_is_utf8, is_utf8-from_IsUtf8}
use Rattle.report_memo.specs.CourtName.{if_text}

pub text_is : (text bytes : List ℕ) → text ≡ bytes → IsUtf8 bytes → Some text ≡ if_text bytes
text_is text bytes same is =
    ap (λ (t : List ℕ). Some t) same ∙ sym (ap (λ (b : Bool). if b then Some bytes else None) (is_utf8-from_IsUtf8 bytes is))

pub no_text_is : (bytes : List ℕ) → ¬ (IsUtf8 bytes) → None ≡ if_text bytes
no_text_is bytes not = by (is_utf8 bytes) refl
  where
    by : (b : Bool) → is_utf8 bytes ≡ b → None ≡ if_text bytes
    by true is = absurd (not (IsUtf8-from_is_utf8 bytes is))
    by false isnt = sym (ap (λ (b : Bool). if b then Some bytes else None) isnt)
