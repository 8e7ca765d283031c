-- Texts and members as JSON.
use Rattle.std.proofs.Common.{◌≡◌, ◌∙◌, ◌++◌, ◌∷◌, [], Bool, true, false, List, ℕ, ap, append_assoc, refl, sym}
use Rattle.std.specs.Prelude.{if◌then◌else◌}
use Rattle.std.specs.Str.{IsUtf8, is_utf8}
use Rattle.std.proofs.lemmas.Str.{IsUtf8-from_is_utf8, is_utf8-from_IsUtf8}
use Rattle.json.specs.Json.{Json, null, string}
use Rattle.json.specs.Token.{Token}
use Rattle.json.specs.Tree.{json_tokens}
use Rattle.desk_program.specs.LogJson.{bytes_json}

-- bytes that are a text, and bytes that are none
pub text_is : (text bytes : List ℕ) → text ≡ bytes → IsUtf8 bytes → string text ≡ bytes_json bytes
text_is text bytes same is = ap string same ∙ sym (ap (λ (b : Bool). if b then string bytes else null) (is_utf8-from_IsUtf8 bytes is))

pub no_text_is : (bytes : List ℕ) → ¬ (IsUtf8 bytes) → null ≡ bytes_json bytes
no_text_is bytes not = by (is_utf8 bytes) refl
  where
    by : (b : Bool) → is_utf8 bytes ≡ b → null ≡ bytes_json bytes
    by true is = absurd (not (IsUtf8-from_is_utf8 bytes is))
    by false isnt = sym (ap (λ (b : Bool). if b then string bytes else null) isnt)

-- a key, and a value of one token
pub member_is : (old keyed new : List Token) (name : List ℕ) (token : Token) (value : Json) → keyed ≡ old ++ Token.key name ∷ [] → new ≡ keyed ++ token ∷ [] → token ∷ [] ≡ json_tokens value
    → new ≡ old ++ Token.key name ∷ json_tokens value
member_is old keyed new name token value first next same =
    next ∙ ap (λ (t : List Token). t ++ token ∷ []) first ∙ append_assoc old (Token.key name ∷ []) (token ∷ []) ∙ ap (λ (t : List Token). old ++ Token.key name ∷ t) same

-- a kind, a row, a stamp, a case and one member more
pub members_five : (old kinded rowed stamped cased new kind row time account case last end : List Token) → kinded ≡ old ++ kind → rowed ≡ kinded ++ row → stamped ≡ rowed ++ (time ++ account) → cased ≡ stamped ++ case → new ≡ cased ++ last
    → new ++ end ≡ old ++ (kind ++ (row ++ (time ++ (account ++ (case ++ (last ++ end))))))
members_five old kinded rowed stamped cased new kind row time account case last end one two three four five =
    ap (λ (t : List Token). t ++ end) five
    ∙ ap (λ (t : List Token). (t ++ last) ++ end) four
    ∙ ap (λ (t : List Token). ((t ++ case) ++ last) ++ end) three
    ∙ ap (λ (t : List Token). (((t ++ (time ++ account)) ++ case) ++ last) ++ end) two
    ∙ ap (λ (t : List Token). ((((t ++ row) ++ (time ++ account)) ++ case) ++ last) ++ end) one
    ∙ simp append_assoc

-- and with two more
pub members_six : (old kinded rowed stamped cased lined new kind row time account case line last end : List Token) → kinded ≡ old ++ kind → rowed ≡ kinded ++ row → stamped ≡ rowed ++ (time ++ account) → cased ≡ stamped ++ case
    → lined ≡ cased ++ line → new ≡ lined ++ last
    → new ++ end ≡ old ++ (kind ++ (row ++ (time ++ (account ++ (case ++ (line ++ (last ++ end)))))))
members_six old kinded rowed stamped cased lined new kind row time account case line last end one two three four five six =
    ap (λ (t : List Token). t ++ end) six
    ∙ append_assoc lined last end
    ∙ members_five old kinded rowed stamped cased lined kind row time account case line (last ++ end) one two three four five
