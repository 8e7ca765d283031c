-- What `parse` gives for a text that is written as numbers are.
use Rattle.std.proofs.Common.{◌≡◌, ◌≤◌, ◌<◌, ◌^◌, ℕ, true, List, length, Result, Ok, arith, rules}
use Rattle.std.specs.Char.{is_ascii_digit}
use Rattle.std.specs.List.{list_all}
use Rattle.std.specs.Str.Parse.{ParsesUnsigned, digits_value, digits_value_after}
use Rattle.std.proofs.lemmas.Bool.Decides.{nat_tests}
use Rattle.std.proofs.lemmas.Str.Parse.{IsNumeralModel, numerals_by_fold, digits_value_short, parse_gives}
use Rattle.row_forms.specs.Fields.Numbers.{is_number}

-- texts of digits, and their values
numerals : IsNumeralModel (λ ds. list_all is_ascii_digit ds ≡ true) (digits_value 10)
numerals = numerals_by_fold _ (search rules) (digits_value_after 10) (search rules)

-- what the test means
record IsNumber (text : List ℕ) : Type 0 where
  some : 0 < length text
  few : length text ≤ 9
  digits : list_all is_ascii_digit text ≡ true

is_number_then : (text : List ℕ) → is_number text ≡ true → IsNumber text
is_number_then text h = record { some = grind (arith, nat_tests); few = grind (arith, nat_tests); digits = grind (arith, nat_tests) }

pub parsed_number : {E : Type 0} (text : List ℕ) (r : Result ℕ E) → is_number text ≡ true → ParsesUnsigned 32 10 text r → r ≡ Ok (digits_value 10 text)
parsed_number text r h parses =
    let n = is_number_then text h in
    let small : digits_value 10 text < 2 ^ 32 = omega (arith, digits_value_short numerals text 9 n.digits n.few) in
    parse_gives numerals 32 text r parses n.digits n.some small

-- such a number has nine digits at most
pub nine_digits : (text : List ℕ) → is_number text ≡ true → digits_value 10 text < 1_000_000_000
nine_digits text h =
    let n = is_number_then text h in
    digits_value_short numerals text 9 n.digits n.few
