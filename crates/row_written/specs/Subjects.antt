-- What a field says that is a number, or a name in place of one: a case number, a Rule, and what deadlines and motions are called.
use Rattle.std.specs.Prelude.{ℕ, ◌==◌, Bool, false, not, List, [], ◌∷◌, codes, Option, Some, None, if◌then◌else◌}
use Rattle.std.specs.Char.{is_ascii_digit}
use Rattle.std.specs.List.{list_any}
use Rattle.std.specs.Str.{bytes_eq}
use Rattle.case_numbers.specs.Words.{NameView, case_read}
use Rattle.row_forms.specs.Words.{is_number}
use Rattle.row_fields.specs.declared.said.Said.{Said}
use Rattle.row_fields.specs.declared.said.Said.TheVariants.{Unknown, Clear, Unclear}
use Rattle.row_fields.specs.Words.{bare, folded, rule_said}

-- this, where it is so, and else nothing that is known
abbrev pub clear_if : Bool → List ℕ → Said (List ℕ)
clear_if so text = if so then Clear text else Unknown

-- a number: the field as it is
abbrev pub number_said : List ℕ → Said (List ℕ)
number_said text = clear_if (is_number text) text

-- What something is called: the field as it is. It has no question mark, which may stand for a letter that plain keys don't type.
abbrev pub has_mark : List ℕ → Bool
has_mark text = list_any (λ b. b == 63) text

abbrev pub text_said : List ℕ → Said (List ℕ)
text_said text = if has_mark text then Unknown else Clear text

-- What a deadline or a motion is called: the field as it is. It isn't empty, and what begins with a digit is a slip of a number, or of a
-- Rule's number.
abbrev pub may_be_label : List ℕ → Bool
may_be_label [] = false
may_be_label (byte ∷ rest) = not (is_ascii_digit byte)

abbrev pub label_said : List ℕ → Said (List ℕ)
label_said text = if may_be_label text then text_said text else Unknown

-- a Rule's number, or what a deadline is called where the field is none
abbrev pub rule_or_label : Said (List ℕ) → (text : List ℕ) → Said (List ℕ)
rule_or_label Unknown text = label_said text
rule_or_label (Clear code) text = Clear code
rule_or_label (Unclear one other) text = Unclear one other

-- a deadline: its number, a Rule's number, or what it is called
abbrev pub deadline_said : List ℕ → Said (List ℕ)
deadline_said text = if is_number text then Clear text else rule_or_label (rule_said (folded text)) text

-- a deadline or a motion: its number, or what it is called
abbrev pub number_or_label : List ℕ → Said (List ℕ)
number_or_label text = if is_number text then Clear text else label_said text

-- a motion: its number, the last, or what it is called
abbrev pub motion_said : List ℕ → Said (List ℕ)
motion_said text = if bytes_eq (folded text) (codes "last") then Clear (codes "last") else number_or_label text

-- a case number as it is shown
abbrev pub shown_said : Option NameView → Said (List ℕ)
shown_said None = Unknown
shown_said (Some name) = Clear name.shown

-- a case: its number, or its case number as the court writes it
abbrev pub case_said : List ℕ → Said (List ℕ)
case_said text = if is_number text then Clear text else shown_said (case_read (bare text))
