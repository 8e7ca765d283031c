-- Parts of a line.
use Rattle.std.proofs.Common.{◌≡◌, ◌∙◌, ◌-◌, ◌==◌, ◌<◌, ℕ, suc, zero, Bool, true, false, List, [], take, length, refl, sym, ap, arith, take_all}
use Rattle.std.specs.List.{after_first, before_first, position_or_len}
use Rattle.std.proofs.lemmas.List.{drop_all}
use Rattle.std.specs.Prelude.{if◌then◌else◌}
use Rattle.std.specs.Str.{IsUtf8, is_utf8}
use Rattle.std.proofs.lemmas.Str.{IsUtf8-from_is_utf8, is_utf8-from_IsUtf8}
use Rattle.row_forms.specs.declared.fault.RowCause.{RowCause}
use Rattle.desk_program.specs.FaultWords.{fault_words, line_words, not_text, part}

pub none_before : (text : List ℕ) → position_or_len (λ b. b == 44) text ≡ length text → text ≡ before_first (λ b. b == 44) text
none_before text none = sym (ap (λ (n : ℕ). take n text) none ∙ take_all (length text) text (omega arith))

pub none_after : (text : List ℕ) → position_or_len (λ b. b == 44) text ≡ length text → [] ≡ after_first (λ b. b == 44) text
none_after text none = sym (drop_all _ text (omega (arith, none)))

pub one_comma_less : (commas : ℕ) (line : List ℕ) → 0 < commas → part (commas - 1) (after_first (λ b. b == 44) line) ≡ part commas line
one_comma_less zero line some = absurd (omega (arith, some))
one_comma_less (suc commas) line some = ap (λ (n : ℕ). part n (after_first (λ b. b == 44) line)) (less commas)
  where
    less : (n : ℕ) → suc n - 1 ≡ n
    less n = omega arith

-- what is said of a line that is text, and of one that isn't
pub text_words : (cause : RowCause) (text line : List ℕ) → text ≡ line → IsUtf8 line → line_words cause text ≡ fault_words cause line
text_words cause text line same is = ap (line_words cause) same ∙ sym (ap (λ (b : Bool). if b then line_words cause line else not_text) (is_utf8-from_IsUtf8 line is))

pub no_text_words : (cause : RowCause) (line : List ℕ) → ¬ (IsUtf8 line) → not_text ≡ fault_words cause line
no_text_words cause line not = by (is_utf8 line) refl
  where
    by : (b : Bool) → is_utf8 line ≡ b → not_text ≡ fault_words cause line
    by true is = absurd (not (IsUtf8-from_is_utf8 line is))
    by false isnt = sym (ap (λ (b : Bool). if b then line_words cause line else not_text) isnt)
