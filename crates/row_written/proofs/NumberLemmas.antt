-- Numbers that are read have the digits of their fields.
use Rattle.std.proofs.Common.{◌≡◌, ◌∙◌, ◌==◌, ◌&&◌, ℕ, Bool, true, false, List, [], length, refl, sym, ap}
use Rattle.std.specs.Prelude.{Option, Some, None, codes, nat_eq, if◌then◌else◌}
use Rattle.std.specs.Char.{is_ascii_digit}
use Rattle.std.specs.List.{list_all, list_any, starts_with}
use Rattle.std.specs.Str.{bytes_eq}
use Rattle.std.proofs.lemmas.Slice.Eq.{bytes_eq-Decides}
use Rattle.case_numbers.specs.Words.{NameView, case_read}
use Rattle.case_numbers.proofs.CallerLemmas.{digits_no_case, shown_is_read_back_lem}
use Rattle.court_clock.specs.Words.{day_text}
use Rattle.row_forms.specs.Words.{is_number}
use Rattle.row_fields.specs.declared.said.Said.{Said}
use Rattle.row_fields.specs.declared.said.Said.TheVariants.{Unknown, Clear, Unclear}
use Rattle.row_fields.specs.Words.{bare, date_said, folded, numbers_in, rule_said, said_map}
use Rattle.row_fields.specs.Choices.{one_rule_said}
use Rattle.row_fields.proofs.CallerLemmas.{numbers_stay_whole_lem}
use Rattle.row_forms.specs.declared.headings.columns.Column.TheVariants.{Case, Period, Need}
use Rattle.row_written.specs.Fields.{field_said, filled_said, grant_said, is_quarters, or_own, period_said, slots_said, word_said}
use Rattle.row_written.specs.Subjects.{clear_if, deadline_said, has_mark, label_said, may_be_label, motion_said, number_or_label, number_said, rule_or_label, shown_said, text_said}
use Rattle.row_written.specs.Laws.{LengthsKeepTheirNumbers, NumbersAreTheirFields}

same_text : (a b : List ℕ) → ◌≡◌ {A = Said (List ℕ)} (Clear a) (Clear b) → a ≡ b
same_text a b e = cc e

-- one of two things that are said
abbrev either : Bool → Said (List ℕ) → Said (List ℕ) → Said (List ℕ)
either so a b = if so then a else b

-- a column that may not be empty says what its filled field says
not_empty : (empty : Bool) (said all : Said (List ℕ)) → either (empty && false) (Clear []) said ≡ all → said ≡ all
not_empty true said all is = is
not_empty false said all is = is

-- a text that is said, where it is said
said_if : (so : Bool) (text plain : List ℕ) → clear_if so text ≡ Clear plain → plain ≡ text
said_if true text plain is = sym (same_text text plain is)
said_if false text plain is = cc is

-- a test of two has the second
second_of : (a b : Bool) → (a && b) ≡ true → b ≡ true
second_of true b is = is
second_of false b is = cc is

-- a number has digits alone
are_digits : (text : List ℕ) → is_number text ≡ true → list_all is_ascii_digit text ≡ true
are_digits text is = second_of _ _ (second_of _ _ is)

-- and no case number is one: what is read as a case number is no number
shown_is_none : (text number : List ℕ) (read : Option NameView) → case_read text ≡ read → shown_said read ≡ Clear number → is_number number ≡ true → ⊥
shown_is_none text number None is said digits = cc said
shown_is_none text number (Some name) is said digits =
    let again : case_read number ≡ Some name = ap case_read (sym (same_text name.shown number said)) ∙ shown_is_read_back_lem text name is in
    let none = digits_no_case number (are_digits number digits) in
    cc (sym again ∙ none)

case_is : (text number : List ℕ) (so : Bool) → either so (Clear text) (shown_said (case_read (bare text))) ≡ Clear number → is_number number ≡ true → number ≡ text
case_is text number true said digits = sym (same_text text number said)
case_is text number false said digits = absurd (shown_is_none (bare text) number (case_read (bare text)) refl said digits)

need_is : (text number : List ℕ) (so : Bool) → bytes_eq (folded text) (codes "exparte") ≡ so → either so (Clear (folded text)) (number_said text) ≡ Clear number → is_number number ≡ true → number ≡ text
need_is text number true is said digits =
    let word : number ≡ codes "exparte" = sym (same_text (folded text) number said) ∙ (bytes_eq-Decides (folded text) (codes "exparte")).0 is in
    let none : is_number (codes "exparte") ≡ true = ap is_number (sym word) ∙ digits in
    cc none
need_is text number false is said digits = said_if (is_number text) text number said

-- no code of a period is a number
no_rule : (so : Bool) (code number : List ℕ) (rest : Said (List ℕ)) → is_number code ≡ false → (rest ≡ Clear number → is_number number ≡ true → ⊥) → either so (Clear code) rest ≡ Clear number → is_number number ≡ true → ⊥
no_rule true code number rest none later said digits = cc (sym none ∙ ap is_number (same_text code number said) ∙ digits)
no_rule false code number rest none later said digits = later said digits

unknown_none : (number : List ℕ) → ◌≡◌ {A = Said (List ℕ)} Unknown (Clear number) → is_number number ≡ true → ⊥
unknown_none number said digits = cc said

one_rule_none : (word number : List ℕ) → one_rule_said word ≡ Clear number → is_number number ≡ true → ⊥
unfolding one_rule_said
one_rule_none word number =
    no_rule _ (codes "4m") number _ refl (no_rule _ (codes "12a1Ai") number _ refl (no_rule _ (codes "12a1Aii-us") number _ refl (no_rule _ (codes "12a1Aii-abroad") number _ refl (no_rule _ (codes "12a1B") number _ refl (
    no_rule _ (codes "12a1C") number _ refl (no_rule _ (codes "12a2") number _ refl (no_rule _ (codes "12a3") number _ refl (no_rule _ (codes "59b") number _ refl (no_rule _ (codes "59e") number _ refl (unknown_none number))))))))))

two_rules_none : (so : Bool) (one other number : List ℕ) (rest : Said (List ℕ)) → (rest ≡ Clear number → is_number number ≡ true → ⊥) → either so (Unclear one other) rest ≡ Clear number → is_number number ≡ true → ⊥
two_rules_none true one other number rest later said digits = cc said
two_rules_none false one other number rest later said digits = later said digits

rule_none : (word number : List ℕ) → rule_said word ≡ Clear number → is_number number ≡ true → ⊥
unfolding rule_said
rule_none word number = two_rules_none _ _ _ number (one_rule_said word) (one_rule_none word number)

-- what is said to be what something is called is the field
text_is : (text number : List ℕ) (so : Bool) → either so Unknown (Clear text) ≡ Clear number → number ≡ text
text_is text number true said = cc said
text_is text number false said = sym (same_text text number said)

label_is : (text number : List ℕ) (so : Bool) → either so (text_said text) Unknown ≡ Clear number → number ≡ text
label_is text number true said = text_is text number (has_mark text) said
label_is text number false said = cc said

rule_is : (text number : List ℕ) (rule : Said (List ℕ)) → (rule ≡ Clear number → is_number number ≡ true → ⊥) → rule_or_label rule text ≡ Clear number → is_number number ≡ true → number ≡ text
rule_is text number Unknown none said digits = label_is text number (may_be_label text) said
rule_is text number (Clear code) none said digits = absurd (none said digits)
rule_is text number (Unclear one other) none said digits = cc said

deadline_is : (text number : List ℕ) (so : Bool) → either so (Clear text) (rule_or_label (rule_said (folded text)) text) ≡ Clear number → is_number number ≡ true → number ≡ text
deadline_is text number true said digits = sym (same_text text number said)
deadline_is text number false said digits = rule_is text number (rule_said (folded text)) (rule_none (folded text) number) said digits

number_is : (text number : List ℕ) (so : Bool) → either so (Clear text) (label_said text) ≡ Clear number → number ≡ text
number_is text number true said = sym (same_text text number said)
number_is text number false said = label_is text number (may_be_label text) said

motion_is : (text number : List ℕ) (so : Bool) → either so (Clear (codes "last")) (number_or_label text) ≡ Clear number → is_number number ≡ true → number ≡ text
motion_is text number true said digits =
    let none : is_number (codes "last") ≡ true = ap is_number (same_text (codes "last") number said) ∙ digits in
    cc none
motion_is text number false said digits = number_is text number (is_number text) said

pub numbers_are_their_fields_lem : NumbersAreTheirFields
unfolding field_said
numbers_are_their_fields_lem names order text number digits = record {
  of_clerks = λ said. said_if (is_number text) text number (not_empty (length text == 0) (number_said text) (Clear number) said);
  of_cases = λ said. case_is text number (is_number text) (not_empty (length text == 0) (filled_said names order Case text) (Clear number) said) digits;
  of_deadlines = λ said. deadline_is text number (is_number text) (not_empty (length text == 0) (deadline_said text) (Clear number) said) digits;
  of_motions = λ said. motion_is text number (bytes_eq (folded text) (codes "last")) (not_empty (length text == 0) (motion_said text) (Clear number) said) digits;
  of_notice = λ said. need_is text number (bytes_eq (folded text) (codes "exparte")) refl (not_empty (length text == 0) (filled_said names order Need text) (Clear number) said) digits;
}

-- the law of lengths
slots_are : (text plain : List ℕ) (so : Bool) → either so (Clear text) (clear_if (is_quarters (bare text)) (bare text)) ≡ Clear plain → numbers_in plain ≡ numbers_in text
slots_are text plain true said = ap numbers_in (sym (same_text text plain said))
slots_are text plain false said = ap numbers_in (said_if (is_quarters (bare text)) (bare text) plain said) ∙ (numbers_stay_whole_lem text).0

-- a field that is said bare, where it is so
bare_is : (text plain : List ℕ) (so : Bool) (other : Said (List ℕ)) → so ≡ true → either so (Clear (bare text)) other ≡ Clear plain → numbers_in plain ≡ numbers_in text
bare_is text plain true other is said = ap numbers_in (sym (same_text (bare text) plain said)) ∙ (numbers_stay_whole_lem text).0
bare_is text plain false other is said = cc is

pub lengths_keep_their_numbers_lem : LengthsKeepTheirNumbers
unfolding field_said
lengths_keep_their_numbers_lem names order text plain = record {
  slots = λ said. slots_are text plain (is_number text) (not_empty (length text == 0) (slots_said text) (Clear plain) said);
  entered = λ so said. bare_is text plain (list_any (λ b. nat_eq b 47) text) (or_own names.periods text (word_said Period text)) so (not_empty (length text == 0) (period_said names text) (Clear plain) said);
  extended = λ so said. bare_is text plain (starts_with nat_eq (bare text) (codes "+")) (said_map day_text (date_said order text)) so (not_empty (length text == 0) (grant_said order text) (Clear plain) said);
}
