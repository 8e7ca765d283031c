-- The bytes of a character, as they are folded and escaped one by one.
use Rattle.std.proofs.Common.{◌≡◌, ◌≢◌, ◌<◌, ◌≤◌, ◌==◌, ◌+◌, ◌-◌, ◌/◌, ◌%◌, ◌∙◌, inl, inr, ℕ, true, false, List, [], ◌∷◌, ◌++◌, length, append_assoc, append-nil, nat_le, ltb, refl, sym, ap, arith, ltb-true, le-leb}
use Rattle.std.proofs.lemmas.Bool.{cases_Bool, cases_lt, lt-leb}
use Rattle.std.proofs.lemmas.Bool.Decides.{nat_tests}
use Rattle.std.proofs.lemmas.Str.{encode_ascii}
use Rattle.std.specs.Char.{len_utf8}
use Rattle.std.specs.List.{flat_map}
use Rattle.content_lines.specs.Escaping.{escaped, escaped_byte, is_control, is_special}
use Rattle.content_lines.specs.Folding.{folded, width}
use Rattle.content_lines.specs.Times.{undashed}
use lib.Utf8.{encode}

-- the byte before which no fold comes, and the byte before which one does
pub folded-fits : (room b : ℕ) (rest : List ℕ) → width b ≤ room → folded room (b ∷ rest) ≡ b ∷ folded (room - 1) rest
unfolding folded
folded-fits room b rest fits =
    let e : nat_le (width b) room ≡ true = le-leb (width b) room fits in
    rw e refl

pub folded-breaks : (room b : ℕ) (rest : List ℕ) → room < width b → folded room (b ∷ rest) ≡ 13 ∷ 10 ∷ 32 ∷ b ∷ folded 73 rest
unfolding folded
folded-breaks room b rest more =
    let e : nat_le (width b) room ≡ false = lt-leb (width b) room more in
    rw e refl

pub folded-inside : (room b : ℕ) (rest : List ℕ) → 128 ≤ b → b < 192 → folded room (b ∷ rest) ≡ b ∷ folded (room - 1) rest
folded-inside room b rest low high =
    let none : width b ≡ 0 = grind (arith, nat_tests) in
    folded-fits room b rest (omega (arith, none))

next_low : (n : ℕ) → 128 ≤ 128 + n % 64
next_low n = omega arith

next_high : (n : ℕ) → 128 + n % 64 < 192
next_high n = omega arith

-- what holds of the bytes of each character and of how many they are: a first byte, and those that follow it inside the character
pub by_bytes : (P : List ℕ → ℕ → Type 0)
    (one : (a : ℕ) → a < 128 → P (a ∷ []) 1)
    (two : (a b : ℕ) → 192 ≤ a → a < 224 → 128 ≤ b → b < 192 → P (a ∷ b ∷ []) 2)
    (three : (a b c : ℕ) → 224 ≤ a → a < 240 → 128 ≤ b → b < 192 → 128 ≤ c → c < 192 → P (a ∷ b ∷ c ∷ []) 3)
    (four : (a b c d : ℕ) → 240 ≤ a → 128 ≤ b → b < 192 → 128 ≤ c → c < 192 → 128 ≤ d → d < 192 → P (a ∷ b ∷ c ∷ d ∷ []) 4)
    → (c : ℕ) → P (encode c) (len_utf8 c)
unfolding encode
by_bytes P one two three four c = elim (cases_Bool (ltb c 128)) [
  | inl is_one ↦ rw is_one (one c (ltb-true c 128 is_one))
  | inr more ↦ elim (cases_Bool (ltb c 2048)) [
    | inl is_two ↦
        let high = ltb-true c 2048 is_two in
        rw (more, is_two) (two (192 + c / 64) (128 + c % 64) (omega arith) (omega (arith, high)) (next_low c) (next_high c))
    | inr more2 ↦ elim (cases_Bool (ltb c 65536)) [
      | inl is_three ↦
          let high = ltb-true c 65536 is_three in
          rw (more, more2, is_three) (three (224 + c / 4096) (128 + c / 64 % 64) (128 + c % 64) (omega arith) (omega (arith, high)) (next_low (c / 64)) (next_high (c / 64)) (next_low c) (next_high c))
      | inr is_four ↦
          rw (more, more2, is_four) (four (240 + c / 262144) (128 + c / 4096 % 64) (128 + c / 64 % 64) (128 + c % 64) (omega arith) (next_low (c / 4096)) (next_high (c / 4096)) (next_low (c / 64)) (next_high (c / 64)) (next_low c) (next_high c))
    ]
  ]
]

-- bytes inside a character follow the first one without a fold
two_inside : (room b c : ℕ) (rest : List ℕ) → 128 ≤ b → b < 192 → 128 ≤ c → c < 192 → folded room (b ∷ c ∷ rest) ≡ b ∷ c ∷ folded (room - 1 - 1) rest
two_inside room b c rest b_low b_high c_low c_high =
    folded-inside room b (c ∷ rest) b_low b_high ∙ ap (λ r. b ∷ r) (folded-inside (room - 1) c rest c_low c_high)

three_inside : (room b c d : ℕ) (rest : List ℕ) → 128 ≤ b → b < 192 → 128 ≤ c → c < 192 → 128 ≤ d → d < 192 → folded room (b ∷ c ∷ d ∷ rest) ≡ b ∷ c ∷ d ∷ folded (room - 1 - 1 - 1) rest
three_inside room b c d rest b_low b_high c_low c_high d_low d_high =
    two_inside room b c (d ∷ rest) b_low b_high c_low c_high ∙ ap (λ r. b ∷ c ∷ r) (folded-inside (room - 1 - 1) d rest d_low d_high)

-- a character for which there is room stays where it is, whole
pub folded-encode : (room : ℕ) (rest : List ℕ) (c : ℕ) → len_utf8 c ≤ room → folded room (encode c ++ rest) ≡ encode c ++ folded (room - len_utf8 c) rest
folded-encode room rest c fits = by_bytes (λ bytes wide. wide ≤ room → folded room (bytes ++ rest) ≡ bytes ++ folded (room - wide) rest)
    (λ a low fits.
    let wide : width a ≡ 1 = grind (arith, nat_tests) in
    folded-fits room a rest (omega (arith, wide, fits)))
    (λ a b low high b_low b_high fits.
    let wide : width a ≡ 2 = grind (arith, nat_tests) in
    let left : room - 1 - 1 ≡ room - 2 = omega arith in
    folded-fits room a (b ∷ rest) (omega (arith, wide, fits))
    ∙ ap (λ r. a ∷ r) (folded-inside (room - 1) b rest b_low b_high)
    ∙ ap (λ n. a ∷ b ∷ folded n rest) left)
    (λ a b c low high b_low b_high c_low c_high fits.
    let wide : width a ≡ 3 = grind (arith, nat_tests) in
    let left : room - 1 - 1 - 1 ≡ room - 3 = omega arith in
    folded-fits room a (b ∷ c ∷ rest) (omega (arith, wide, fits))
    ∙ ap (λ r. a ∷ r) (two_inside (room - 1) b c rest b_low b_high c_low c_high)
    ∙ ap (λ n. a ∷ b ∷ c ∷ folded n rest) left)
    (λ a b c d low b_low b_high c_low c_high d_low d_high fits.
    let wide : width a ≡ 4 = grind (arith, nat_tests) in
    let left : room - 1 - 1 - 1 - 1 ≡ room - 4 = omega arith in
    folded-fits room a (b ∷ c ∷ d ∷ rest) (omega (arith, wide, fits))
    ∙ ap (λ r. a ∷ r) (three_inside (room - 1) b c d rest b_low b_high c_low c_high d_low d_high)
    ∙ ap (λ n. a ∷ b ∷ c ∷ d ∷ folded n rest) left)
    c fits

-- a character for which there is no room comes after a fold, whole
pub folded-encode_next : (room : ℕ) (rest : List ℕ) (c : ℕ) → room < len_utf8 c → folded room (encode c ++ rest) ≡ 13 ∷ 10 ∷ 32 ∷ (encode c ++ folded (74 - len_utf8 c) rest)
folded-encode_next room rest c more = by_bytes (λ bytes wide. room < wide → folded room (bytes ++ rest) ≡ 13 ∷ 10 ∷ 32 ∷ (bytes ++ folded (74 - wide) rest))
    (λ a low more.
    let wide : width a ≡ 1 = grind (arith, nat_tests) in
    folded-breaks room a rest (omega (arith, wide, more)))
    (λ a b low high b_low b_high more.
    let wide : width a ≡ 2 = grind (arith, nat_tests) in
    folded-breaks room a (b ∷ rest) (omega (arith, wide, more))
    ∙ ap (λ r. 13 ∷ 10 ∷ 32 ∷ a ∷ r) (folded-inside 73 b rest b_low b_high))
    (λ a b c low high b_low b_high c_low c_high more.
    let wide : width a ≡ 3 = grind (arith, nat_tests) in
    folded-breaks room a (b ∷ c ∷ rest) (omega (arith, wide, more))
    ∙ ap (λ r. 13 ∷ 10 ∷ 32 ∷ a ∷ r) (two_inside 73 b c rest b_low b_high c_low c_high))
    (λ a b c d low b_low b_high c_low c_high d_low d_high more.
    let wide : width a ≡ 4 = grind (arith, nat_tests) in
    folded-breaks room a (b ∷ c ∷ d ∷ rest) (omega (arith, wide, more))
    ∙ ap (λ r. 13 ∷ 10 ∷ 32 ∷ a ∷ r) (three_inside 73 b c d rest b_low b_high c_low c_high d_low d_high))
    c more

wide_high : (c : ℕ) → 128 ≤ c → 2 ≤ len_utf8 c
wide_high c high = grind (arith, nat_tests)

-- a character is left as it is, if that holds of each byte from 128 on, and of itself
by_itself : (f : ℕ → List ℕ) → ((b : ℕ) → 128 ≤ b → f b ≡ b ∷ []) → (c : ℕ) → f c ≡ c ∷ [] → flat_map f (encode c) ≡ encode c
by_itself f high c itself = elim (cases_lt c 128) [
  | inl low ↦ rw (encode_ascii c low) (rw itself refl)
  | inr more ↦ by_bytes (λ bytes wide. 2 ≤ wide → flat_map f bytes ≡ bytes)
      (λ a low wide. absurd (omega (arith, wide)))
      (λ a b low upper b_low b_high wide. rw (high a (omega (arith, low)), high b b_low) refl)
      (λ a b d low upper b_low b_high d_low d_high wide. rw (high a (omega (arith, low)), high b b_low, high d d_low) refl)
      (λ a b d e low b_low b_high d_low d_high e_low e_high wide. rw (high a (omega (arith, low)), high b b_low, high d d_low, high e e_low) refl)
      c (wide_high c more)
]

-- a character that isn't special is escaped as itself
high_byte : (b : ℕ) → 128 ≤ b → escaped_byte b ≡ b ∷ []
high_byte b high =
    let other : (b == 10) ≡ false = grind (arith, nat_tests) in
    let plain : is_special b ≡ false = grind (arith, nat_tests) in
    let shown : is_control b ≡ false = grind (arith, nat_tests) in
    rw (other, plain, shown) refl

pub escaped-encode : (c : ℕ) → escaped_byte c ≡ c ∷ [] → escaped (encode c) ≡ encode c
escaped-encode c itself = by_itself escaped_byte high_byte c itself

-- and one that is no dash stays in a date
no_dash : (b : ℕ) → (b == 45) ≡ false → undashed b ≡ b ∷ []
no_dash b other = rw other refl

high_is_no_dash : (b : ℕ) → 128 ≤ b → undashed b ≡ b ∷ []
high_is_no_dash b high =
    let other : (b == 45) ≡ false = grind (arith, nat_tests) in
    no_dash b other

pub undashed-encode : (c : ℕ) → c ≢ 45 → flat_map undashed (encode c) ≡ encode c
undashed-encode c other =
    let differs : (c == 45) ≡ false = grind (arith, nat_tests) in
    by_itself undashed high_is_no_dash c (no_dash c differs)

-- one character more was added, where there was room for it, and where there was none
pub one_that_fits : (old new rest all whole : List ℕ) (room c : ℕ) → all ≡ encode c ++ rest → len_utf8 c ≤ room → new ≡ old ++ encode c → old ++ folded room all ≡ whole → new ++ folded (room - len_utf8 c) rest ≡ whole
one_that_fits old new rest all whole room c is fits added before =
    ap (λ t. t ++ folded (room - len_utf8 c) rest) added
    ∙ append_assoc old (encode c) (folded (room - len_utf8 c) rest)
    ∙ ap (λ t. old ++ t) (sym (folded-encode room rest c fits) ∙ ap (folded room) (sym is))
    ∙ before

pub one_after_a_fold : (old broken new rest all whole : List ℕ) (room c : ℕ) → all ≡ encode c ++ rest → room < len_utf8 c → broken ≡ old ++ 13 ∷ 10 ∷ 32 ∷ [] → new ≡ broken ++ encode c → old ++ folded room all ≡ whole → new ++ folded (74 - len_utf8 c) rest ≡ whole
one_after_a_fold old broken new rest all whole room c is more broke added before =
    let left = folded (74 - len_utf8 c) rest in
    ap (λ t. t ++ left) (added ∙ ap (λ t. t ++ encode c) broke)
    ∙ append_assoc (old ++ 13 ∷ 10 ∷ 32 ∷ []) (encode c) left
    ∙ append_assoc old (13 ∷ 10 ∷ 32 ∷ []) (encode c ++ left)
    ∙ ap (λ t. old ++ t) (sym (folded-encode_next room rest c more) ∙ ap (folded room) (sym is))
    ∙ before

-- no character is left
pub none_that_is_left : (old rest whole : List ℕ) (room : ℕ) → length rest ≡ 0 → old ++ folded room rest ≡ whole → old ≡ whole
unfolding folded
none_that_is_left old [] whole room none all = sym (append-nil old) ∙ all
none_that_is_left old (b ∷ rest) whole room none all = absurd (omega (arith, none))
