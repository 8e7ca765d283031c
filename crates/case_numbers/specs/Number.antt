-- A case number as courts write it: `1:25-cv-01234-ABC`.
use Rattle.std.specs.Prelude.{◌≡◌, ℕ, ◌&&◌, Bool, true, not, Contains, List, [], ◌∷◌, ◌++◌, Option, Some, None, codes, drop, length, map, nat_eq, nat_le, take, if◌then◌else◌}
use Rattle.std.specs.Char.{is_ascii_digit, to_ascii_lowercase, to_ascii_uppercase}
use Rattle.std.specs.List.{prefix_len}
use Rattle.std.specs.Str.{bytes_eq}
use Rattle.case_numbers.specs.Forms.{are_initials, dashed, fits, form_of, forms, is_worded, office_of, picked}

-- A case number: the digit of the office, or none, two digits of the year, two small letters of the kind, the number with five
-- digits, and the initials of judges, each group of capitals after a dash.
pub record CaseNumber : Type 0 where
  pub office : List ℕ
  pub year : List ℕ
  pub kind : List ℕ
  pub digits : List ℕ
  pub initials : List ℕ

-- A case number that was read: its key tells cases apart, as `1:25-cv-01234`, and it is shown with the judges' initials, as
-- `1:25-cv-01234-ABC`.
pub record NameView : Type 0 where
  pub key : List ℕ
  pub shown : List ℕ

-- an office and a colon, where there is one
abbrev pub office_text : List ℕ → List ℕ
office_text [] = []
office_text (b ∷ rest) = b ∷ 58 ∷ []

abbrev pub key_of : CaseNumber → List ℕ
key_of n = office_text n.office ++ n.year ++ 45 ∷ [] ++ n.kind ++ 45 ∷ [] ++ n.digits

-- a key without its office and the colon after it
abbrev pub without_office : (key : List ℕ) → List ℕ
without_office [] = []
without_office (b ∷ []) = b ∷ []
without_office (b ∷ c ∷ rest) = if nat_eq c 58 then rest else b ∷ c ∷ rest

-- two keys are the same but for their offices
abbrev pub same_but_office : (key other : List ℕ) → Bool
same_but_office key other = bytes_eq (without_office key) (without_office other)

abbrev pub named : CaseNumber → NameView
named n = record { key = key_of n; shown = key_of n ++ n.initials }

-- a number of the year's cases, written with five digits
abbrev pub five_digits : List ℕ → List ℕ
five_digits digits = drop (length digits) (codes "00000") ++ digits

-- what a text says that fits a form, by what comes after its digits
abbrev pub office_in : (form text tail : List ℕ) → List ℕ
office_in form text tail = if is_worded form then office_of tail else picked 111 form text

abbrev pub initials_in : (form tail : List ℕ) → List ℕ
initials_in form tail = dashed (if is_worded form then drop 4 tail else tail)

-- the word of the office is needed where the kind comes first
abbrev pub has_office : (form office : List ℕ) → Bool
has_office form office = not (is_worded form && nat_eq (length office) 0)

abbrev pub number_with : (form text digits office initials : List ℕ) → CaseNumber
number_with form text digits office initials = record {
  office = office;
  year = picked 121 form text;
  kind = map to_ascii_lowercase (picked 107 form text);
  digits = five_digits digits;
  initials = map to_ascii_uppercase initials;
}

-- one to five digits, an office and initials
abbrev pub is_whole : (form digits office initials : List ℕ) → Bool
is_whole form digits office initials = nat_le 1 (length digits) && nat_le (length digits) 5 && has_office form office && are_initials initials

abbrev pub whole_number : (form text digits office initials : List ℕ) → Option CaseNumber
whole_number form text digits office initials = if is_whole form digits office initials then Some (number_with form text digits office initials) else None

-- the case number that a text is in a form that fits
unfoldable pub number_in : (form text : List ℕ) → Option CaseNumber
number_in form text =
    let rest = drop (length form) text in
    let count = prefix_len is_ascii_digit rest in
    let tail = drop count rest in
    whole_number form text (take count rest) (office_in form text tail) (initials_in form tail)

abbrev pub number_if : Option (List ℕ) → (text : List ℕ) → Option CaseNumber
number_if None text = None
number_if (Some form) text = number_in form text

-- the case number that a text is, by the first form that fits
abbrev pub number_read : List ℕ → Option CaseNumber
number_read text = number_if (form_of text) text

abbrev pub named_if : Option CaseNumber → Option NameView
named_if None = None
named_if (Some n) = Some (named n)

unfoldable pub case_read : List ℕ → Option NameView
case_read text = named_if (number_read text)

-- a text is this case number in one of the forms
pub record IsSpelling (text : List ℕ) (n : CaseNumber) : Type 0 where
  pub form : List ℕ
  pub known : Contains forms form
  pub fit : fits form text ≡ true
  pub says : number_in form text ≡ Some n

-- the same case, whatever the initials
pub record IsSameCase (m n : CaseNumber) : Type 0 where
  pub office : m.office ≡ n.office
  pub year : m.year ≡ n.year
  pub kind : m.kind ≡ n.kind
  pub digits : m.digits ≡ n.digits
