-- Numbers, read as they are written.
use Rattle.std.proofs.Common.{◌≡◌, ◌<◌, ◌≤◌, ◌^◌, ◌==◌, ◌&&◌, ℕ, zero, suc, Bool, true, false, not, cond, List, get_or, length, Result, Ok, Err, Some, None, nat_le, nat_lt, refl, ap, arith, rules}
use Rattle.std.proofs.lemmas.Bool.Decides.{nat_tests}
use Rattle.std.proofs.lemmas.Fmt.{IsAscii-from_digits, decimal_digit, decimal_nonempty, digits_decimal, digits_value-decimal, first_decimal, length-decimal-le}
use Rattle.std.proofs.lemmas.Str.Parse.{IsNumeralModel, digits_value_short, numerals_by_fold, parse_digits}
use Rattle.std.specs.Char.{is_ascii_digit}
use Rattle.std.specs.Fmt.{decimal}
use Rattle.std.specs.List.{list_all}
use Rattle.std.specs.Result.{result_ok}
use Rattle.std.specs.Str.{IsAscii}
use Rattle.std.specs.Str.Parse.{ParsesUnsigned, digits_value, digits_value_after}
use Rattle.row_forms.specs.Words.{is_number, number_of}
use Rattle.desk_numbers.specs.Strikes.SaidText.{is_numeral, numeral_of}

-- texts of digits, and their values
numerals : IsNumeralModel (λ ds. list_all is_ascii_digit ds ≡ true) (digits_value 10)
numerals = numerals_by_fold _ (search rules) (digits_value_after 10) (search rules)

pub all_digits : (n : ℕ) → n < 4_294_967_296 → list_all is_ascii_digit (decimal n) ≡ true
all_digits n small = digits_decimal numerals n (omega (arith, small))

no_leading_zero : (n : ℕ) → n < 4_294_967_296 → (nat_lt 1 (length (decimal n)) && (get_or (decimal n) 0 0 == 48)) ≡ false
no_leading_zero zero small = ap (λ (l : List ℕ). nat_lt 1 (length l) && (get_or l 0 0 == 48)) (decimal_digit 0 (omega arith))
no_leading_zero (suc n) small = let first = first_decimal (suc n) (omega arith) (omega (arith, small)) in by (nat_lt 1 (length (decimal (suc n)))) (grind (arith, nat_tests))
  where
    by : (b : Bool) → (get_or (decimal (suc n)) 0 0 == 48) ≡ false → (b && (get_or (decimal (suc n)) 0 0 == 48)) ≡ false
    by true e = e
    by false e = refl

pub number_back : (n : ℕ) → n < 1_000_000_000 → number_of (decimal n) ≡ Some n
unfolding number_of
number_back n small =
    let big : n < 2 ^ 64 = omega (arith, small) in
    let some : nat_le 1 (length (decimal n)) ≡ true = grind (arith, nat_tests, decimal_nonempty n big) in
    let few : nat_le (length (decimal n)) 9 ≡ true = grind (arith, nat_tests, length-decimal-le 9 n (omega arith) small big) in
    let within : n < 4_294_967_296 = omega (arith, small) in
    rw (some, few, no_leading_zero n within, all_digits n within, digits_value-decimal numerals n big) refl

-- what the test of ten digits at most means
record IsNumeral (text : List ℕ) : Type 0 where
  some : 0 < length text
  digits : list_all is_ascii_digit text ≡ true

is_numeral_then : (text : List ℕ) → is_numeral text ≡ true → IsNumeral text
is_numeral_then text h = record { some = grind (arith, nat_tests); digits = grind (arith, nat_tests) }

pub ascii_numeral : (text : List ℕ) → is_numeral text ≡ true → IsAscii text
ascii_numeral text h = IsAscii-from_digits text (numerals.to text (is_numeral_then text h).digits)

pub numeral_read : {E : Type 0} (text : List ℕ) (r : Result ℕ E) → is_numeral text ≡ true → ParsesUnsigned 32 10 text r → result_ok r ≡ numeral_of text
unfolding numeral_of
numeral_read {E} text (Ok n) h parses =
    let is = is_numeral_then text h in
    let read = parse_digits numerals {E = E} 32 text (Ok n) parses is.digits in
    let small : nat_lt (digits_value 10 text) 4_294_967_296 ≡ true = grind (arith, nat_tests, read.0.1) in
    rw (h, small) (ap (λ v. Some v) read.1)
numeral_read {E} text (Err e) h parses =
    let is = is_numeral_then text h in
    let unread = parse_digits numerals {E = E} 32 text (Err e) parses is.digits in
    by (nat_lt (digits_value 10 text) 4_294_967_296) refl unread
  where
    by : (t : Bool) → nat_lt (digits_value 10 text) 4_294_967_296 ≡ t → ¬ ((0 < length text) × (digits_value 10 text < 2 ^ 32)) → None ≡ cond (is_numeral text && t) (Some (digits_value 10 text)) None
    by true small unread = absurd (unread ((is_numeral_then text h).some, grind (arith, nat_tests)))
    by false large unread = rw h refl

pub numeral_back : (n : ℕ) → n < 4_294_967_296 → numeral_of (decimal n) ≡ Some n
unfolding numeral_of
numeral_back n small =
    let big : n < 2 ^ 64 = omega (arith, small) in
    let some : nat_le 1 (length (decimal n)) ≡ true = grind (arith, nat_tests, decimal_nonempty n big) in
    let few : nat_le (length (decimal n)) 10 ≡ true = grind (arith, nat_tests, length-decimal-le 10 n (omega arith) (omega (arith, small)) big) in
    let within : nat_lt n 4_294_967_296 ≡ true = grind (arith, nat_tests, small) in
    rw (some, few, no_leading_zero n small, all_digits n small, digits_value-decimal numerals n big, within) refl

-- a number of nine digits at most is read as the others are, and one of more isn't
number_digits : (text : List ℕ) → is_number text ≡ true → list_all is_ascii_digit text ≡ true
number_digits text h = grind (arith, nat_tests)

pub number_short : (text : List ℕ) → length text ≤ 9 → numeral_of text ≡ number_of text
unfolding numeral_of number_of
number_short text short =
    let few : nat_le (length text) 9 ≡ true = grind (arith, nat_tests, short) in
    let most : nat_le (length text) 10 ≡ true = grind (arith, nat_tests, short) in
    let alike : is_numeral text ≡ is_number text = rw (few, most) refl in
    by (is_number text) refl alike
  where
    by : (t : Bool) → is_number text ≡ t → is_numeral text ≡ t → cond (is_numeral text && nat_lt (digits_value 10 text) 4_294_967_296) (Some (digits_value 10 text)) None ≡ cond t (Some (digits_value 10 text)) None
    by true is numeral =
        let value : digits_value 10 text < 10 ^ 9 = digits_value_short numerals text 9 (number_digits text is) short in
        let small : nat_lt (digits_value 10 text) 4_294_967_296 ≡ true = grind (arith, nat_tests, value) in
        rw (numeral, small) refl
    by false is numeral = rw numeral refl

pub number_long : (text : List ℕ) → 9 < length text → number_of text ≡ None
unfolding number_of
number_long text long =
    let many : nat_le (length text) 9 ≡ false = grind (arith, nat_tests, long) in
    let none : is_number text ≡ false = rw many (by (nat_le 1 (length text))) in
    rw none refl
  where
    by : (t : Bool) → ((t && false) && (not (nat_lt 1 (length text) && (get_or text 0 0 == 48)) && list_all is_ascii_digit text)) ≡ false
    by true = refl
    by false = refl
