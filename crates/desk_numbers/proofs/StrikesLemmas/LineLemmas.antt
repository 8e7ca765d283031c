-- Texts are cut at the first byte of a value.
use Rattle.std.proofs.Common.{◌≡◌, ◌∙◌, ◌+◌, ◌<◌, ◌&&◌, ◌||◌, ℕ, suc, Bool, true, false, not, cond, List, [], ◌∷◌, ◌++◌, drop, length, nat_eq, refl, take, ap, arith}
use Rattle.std.proofs.lemmas.Bool.Decides.{nat_tests}
use Rattle.std.proofs.lemmas.Grind.{common_steps}
use Rattle.std.proofs.lemmas.List.{take_all}
use Rattle.std.specs.Char.{is_ascii_digit}
use Rattle.std.specs.Fmt.{decimal}
use Rattle.std.specs.List.{list_all, list_any}
use Rattle.desk_numbers.specs.Strikes.Line.{before, length_before, past}
use Rattle.desk_numbers.proofs.StrikesLemmas.NumberLemmas.{all_digits}

-- none of these bytes is that one
abbrev pub lacks : (byte : ℕ) → List ℕ → Bool
lacks byte text = list_all (λ b. not (nat_eq b byte)) text

pub lacks-append : (byte : ℕ) (some more : List ℕ) → lacks byte some ≡ true → lacks byte more ≡ true → lacks byte (some ++ more) ≡ true
lacks-append byte [] more h k = k
lacks-append byte (b ∷ some) more h k = by (not (nat_eq b byte)) refl h (λ rest. lacks-append byte some more rest k)
  where
    by : (t : Bool) → not (nat_eq b byte) ≡ t → (t && lacks byte some) ≡ true → (lacks byte some ≡ true → lacks byte (some ++ more) ≡ true) → (t && lacks byte (some ++ more)) ≡ true
    by true e h rest = rest h
    by false e h rest = cc h

itself : (byte : ℕ) → nat_eq byte byte ≡ true
itself byte = grind (arith, nat_tests)

-- a text is cut at the first such byte
length_cut : (byte : ℕ) (front rest : List ℕ) → lacks byte front ≡ true → length_before byte (front ++ byte ∷ rest) ≡ length front
length_cut byte [] rest h = rw (itself byte) refl
length_cut byte (b ∷ front) rest h = by (not (nat_eq b byte)) h (length_cut byte front rest)
  where
    by : (t : Bool) → (t && lacks byte front) ≡ true → (lacks byte front ≡ true → length_before byte (front ++ byte ∷ rest) ≡ length front) → cond t (1 + length_before byte (front ++ byte ∷ rest)) 0 ≡ length (b ∷ front)
    by true h more = omega (arith, more h)
    by false h more = cc h

length_uncut : (byte : ℕ) (text : List ℕ) → lacks byte text ≡ true → length_before byte text ≡ length text
length_uncut byte [] h = refl
length_uncut byte (b ∷ text) h = by (not (nat_eq b byte)) h (length_uncut byte text)
  where
    by : (t : Bool) → (t && lacks byte text) ≡ true → (lacks byte text ≡ true → length_before byte text ≡ length text) → cond t (1 + length_before byte text) 0 ≡ length (b ∷ text)
    by true h more = omega (arith, more h)
    by false h more = cc h

take_front : (front rest : List ℕ) → take (length front) (front ++ rest) ≡ front
take_front [] rest = refl
take_front (b ∷ front) rest = ap (λ l. b ∷ l) (take_front front rest)

drop_front : (front : List ℕ) (byte : ℕ) (rest : List ℕ) → drop (suc (length front)) (front ++ byte ∷ rest) ≡ rest
drop_front [] byte rest = refl
drop_front (b ∷ front) byte rest = drop_front front byte rest

pub before_cut : (byte : ℕ) (front rest : List ℕ) → lacks byte front ≡ true → before byte (front ++ byte ∷ rest) ≡ front
before_cut byte front rest h = ap (λ n. take n (front ++ byte ∷ rest)) (length_cut byte front rest h) ∙ take_front front (byte ∷ rest)

pub past_cut : (byte : ℕ) (front rest : List ℕ) → lacks byte front ≡ true → past byte (front ++ byte ∷ rest) ≡ rest
past_cut byte front rest h =
    let past_it : length_before byte (front ++ byte ∷ rest) + 1 ≡ suc (length front) = omega (arith, length_cut byte front rest h) in
    ap (λ n. drop n (front ++ byte ∷ rest)) past_it ∙ drop_front front byte rest

pub before_uncut : (byte : ℕ) (text : List ℕ) → lacks byte text ≡ true → before byte text ≡ text
before_uncut byte text h = ap (λ n. take n text) (length_uncut byte text h) ∙ take_all (length text) text (omega arith)

-- digits are no such bytes
digits_lack : (byte : ℕ) → byte < 48 → (ds : List ℕ) → list_all is_ascii_digit ds ≡ true → lacks byte ds ≡ true
digits_lack byte low [] h = refl
digits_lack byte low (d ∷ ds) h = by (is_ascii_digit d) refl h (digits_lack byte low ds)
  where
    differs : is_ascii_digit d ≡ true → not (nat_eq d byte) ≡ true
    differs digit = by_eq (nat_eq d byte) refl
      where
        by_eq : (b : Bool) → nat_eq d byte ≡ b → not b ≡ true
        by_eq true e = grind (arith, common_steps)
        by_eq false e = refl

    by : (t : Bool) → is_ascii_digit d ≡ t → (t && list_all is_ascii_digit ds) ≡ true → (list_all is_ascii_digit ds ≡ true → lacks byte ds ≡ true) → (not (nat_eq d byte) && lacks byte ds) ≡ true
    by true e h rest = rw (differs e) (rest h)
    by false e h rest = cc h

pub number_lacks : (byte n : ℕ) → byte < 48 → n < 4_294_967_296 → lacks byte (decimal n) ≡ true
number_lacks byte n low small = digits_lack byte low (decimal n) (all_digits n small)

-- the bytes of a text that has none of a value
pub lacks_that : (byte : ℕ) (text : List ℕ) → list_any (nat_eq byte) text ≡ false → lacks byte text ≡ true
lacks_that byte [] none = refl
lacks_that byte (b ∷ text) none = by (nat_eq b byte) (about byte b) none (lacks_that byte text)
  where
    about : (m n : ℕ) → nat_eq m n ≡ nat_eq n m
    about m n = grind (arith, nat_tests)

    by : (t : Bool) → nat_eq byte b ≡ t → (nat_eq byte b || list_any (nat_eq byte) text) ≡ false → (list_any (nat_eq byte) text ≡ false → lacks byte text ≡ true) → (not t && lacks byte text) ≡ true
    by true is none rest = cc (rw is at none)
    by false is none rest = rest (rw is at none)
