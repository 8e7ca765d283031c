-- The digits of a date are text.
use Rattle.std.proofs.Common.{◌≡◌, ℕ, zero, suc, Bool, true, nat_lt, List, [], ◌∷◌, arith, refl, ltb-true}
use Rattle.std.specs.Char.{is_ascii_digit}
use Rattle.std.specs.List.{list_all}
use Rattle.std.specs.Str.{IsAscii, IsUtf8}
use Rattle.std.proofs.lemmas.Bool.{and_parts}
use Rattle.std.proofs.lemmas.Bool.Decides.{nat_tests}
use Rattle.std.proofs.lemmas.Str.{IsUtf8-from_ascii}

abbrev is_low : ℕ → Bool
is_low b = nat_lt b 128

ascii_from_all : (bs : List ℕ) → list_all is_low bs ≡ true → IsAscii bs
ascii_from_all [] are i = omega arith
ascii_from_all (b ∷ bs) are zero = ltb-true b 128 (and_parts (is_low b) (list_all is_low bs) are).0
ascii_from_all (b ∷ bs) are (suc i) = ascii_from_all bs (and_parts (is_low b) (list_all is_low bs) are).1 i

digit_low : (b : ℕ) → is_ascii_digit b ≡ true → is_low b ≡ true
digit_low b is = grind (arith, nat_tests)

-- a date whose digits are digits is text
pub date_utf8 : (y yy yyy yyyy m mm d dd : ℕ) → list_all is_ascii_digit (y ∷ yy ∷ yyy ∷ yyyy ∷ m ∷ mm ∷ d ∷ dd ∷ []) ≡ true → IsUtf8 (y ∷ yy ∷ yyy ∷ yyyy ∷ 45 ∷ m ∷ mm ∷ 45 ∷ d ∷ dd ∷ [])
date_utf8 y yy yyy yyyy m mm d dd are =
    let p1 = and_parts (is_ascii_digit y) (list_all is_ascii_digit (yy ∷ yyy ∷ yyyy ∷ m ∷ mm ∷ d ∷ dd ∷ [])) are in
    let p2 = and_parts (is_ascii_digit yy) (list_all is_ascii_digit (yyy ∷ yyyy ∷ m ∷ mm ∷ d ∷ dd ∷ [])) p1.1 in
    let p3 = and_parts (is_ascii_digit yyy) (list_all is_ascii_digit (yyyy ∷ m ∷ mm ∷ d ∷ dd ∷ [])) p2.1 in
    let p4 = and_parts (is_ascii_digit yyyy) (list_all is_ascii_digit (m ∷ mm ∷ d ∷ dd ∷ [])) p3.1 in
    let p5 = and_parts (is_ascii_digit m) (list_all is_ascii_digit (mm ∷ d ∷ dd ∷ [])) p4.1 in
    let p6 = and_parts (is_ascii_digit mm) (list_all is_ascii_digit (d ∷ dd ∷ [])) p5.1 in
    let p7 = and_parts (is_ascii_digit d) (list_all is_ascii_digit (dd ∷ [])) p6.1 in
    let p8 = and_parts (is_ascii_digit dd) (list_all is_ascii_digit []) p7.1 in
    let low : list_all is_low (y ∷ yy ∷ yyy ∷ yyyy ∷ 45 ∷ m ∷ mm ∷ 45 ∷ d ∷ dd ∷ []) ≡ true =
    rw (digit_low y p1.0, digit_low yy p2.0, digit_low yyy p3.0, digit_low yyyy p4.0, digit_low m p5.0, digit_low mm p6.0, digit_low d p7.0, digit_low dd p8.0) refl in
    IsUtf8-from_ascii (y ∷ yy ∷ yyy ∷ yyyy ∷ 45 ∷ m ∷ mm ∷ 45 ∷ d ∷ dd ∷ []) (ascii_from_all (y ∷ yy ∷ yyy ∷ yyyy ∷ 45 ∷ m ∷ mm ∷ 45 ∷ d ∷ dd ∷ []) low)
