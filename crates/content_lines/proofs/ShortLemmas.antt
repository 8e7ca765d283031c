-- No line that is sent is too long.
use Rattle.std.proofs.Common.{◌≡◌, ◌≤◌, ◌<◌, ◌+◌, ◌-◌, inl, inr, ◌∙◌, ℕ, Bool, true, false, ◌&&◌, nat_le, nat_lt, List, [], ◌∷◌, ◌++◌, length, if◌then◌else◌, append_assoc, refl, sym, ap, arith, leb-true, leb-false, le-leb, zero-le}
use Rattle.std.specs.List.{list_all}
use Rattle.std.proofs.lemmas.Bool.{cases_Bool, and_parts, and_from}
use Rattle.std.proofs.lemmas.Bool.Decides.{nat_tests}
use Rattle.content_lines.specs.Folding.{folded, is_inside, width, HasShortLines}
use Rattle.content_lines.specs.Property.{sent}
use Rattle.content_lines.specs.Laws.{SentLinesAreShort}
use Rattle.content_lines.proofs.CharacterLemmas.{by_bytes, folded-breaks, folded-fits}
use Rattle.content_lines.proofs.FoldingLemmas.{folded-none, sent_line-ends}
use lib.Utf8.{encode, encodes}

-- each line of the text has at most 75 bytes, and what is left of the first has at most `room`
fits_in : (room : ℕ) → List ℕ → Bool
fits_in room [] = true
fits_in room (b ∷ bs) = if is_inside b then nat_le 1 room && fits_in (room - 1) bs else fits_in 75 bs

fits_in-none : fits_in 75 [] ≡ true
unfolding fits_in
fits_in-none = refl

fits_in-inside : (room b : ℕ) (bs : List ℕ) → is_inside b ≡ true → fits_in room (b ∷ bs) ≡ (nat_le 1 room && fits_in (room - 1) bs)
unfolding fits_in
fits_in-inside room b bs inside = rw inside refl

fits_in-end : (room b : ℕ) (bs : List ℕ) → is_inside b ≡ false → fits_in room (b ∷ bs) ≡ fits_in 75 bs
unfolding fits_in
fits_in-end room b bs end = rw end refl

-- a piece without a line end is no longer than the room
piece_fits : (room : ℕ) (piece back : List ℕ) → fits_in room (piece ++ back) ≡ true → list_all is_inside piece ≡ true → length piece ≤ room
piece_fits room [] back fits inside = zero-le
piece_fits room (b ∷ piece) back fits inside =
    let both = and_parts (is_inside b) (list_all is_inside piece) inside in
    let here = and_parts (nat_le 1 room) (fits_in (room - 1) (piece ++ back)) (sym (fits_in-inside room b (piece ++ back) both.0) ∙ fits) in
    let one = leb-true 1 room here.0 in
    let later = piece_fits (room - 1) piece back here.1 both.1 in
    omega (arith, one, later)

-- what comes after a beginning fits too
later_fits : (room : ℕ) (front rest : List ℕ) → room ≤ 75 → fits_in room (front ++ rest) ≡ true → (left : ℕ) × ((left ≤ 75) × (fits_in left rest ≡ true))
later_fits room [] rest small fits = (room, (small, fits))
later_fits room (b ∷ front) rest small fits = elim (cases_Bool (is_inside b)) [
  | inl inside ↦
      let here = and_parts (nat_le 1 room) (fits_in (room - 1) (front ++ rest)) (sym (fits_in-inside room b (front ++ rest) inside) ∙ fits) in
      later_fits (room - 1) front rest (omega arith) here.1
  | inr end ↦ later_fits 75 front rest (omega arith) (sym (fits_in-end room b (front ++ rest) end) ∙ fits)
]

short_lines : (text : List ℕ) → fits_in 75 text ≡ true → HasShortLines text
short_lines text fits front piece back is inside =
    let later = later_fits 75 front (piece ++ back) (omega arith) (ap (fits_in 75) (sym (append_assoc front piece back)) ∙ ap (fits_in 75) (sym is) ∙ fits) in
    let fit = piece_fits later.0 piece back later.1.1 inside in
    omega (arith, fit, later.1.0)

-- a byte inside a character
abbrev is_inner : ℕ → Bool
is_inner b = nat_le 128 b && nat_lt b 192

-- no character has more bytes than its first byte says, and at most `left` bytes of one come first
led : (left : ℕ) → List ℕ → Bool
led left [] = true
led left (b ∷ bs) = if is_inner b then nat_le 1 left && led (left - 1) bs else led (width b - 1) bs

led-none : (left : ℕ) → led left [] ≡ true
unfolding led
led-none left = refl

led-inner : (left b : ℕ) (bs : List ℕ) → is_inner b ≡ true → led left (b ∷ bs) ≡ (nat_le 1 left && led (left - 1) bs)
unfolding led
led-inner left b bs inner = rw inner refl

led-first : (left b : ℕ) (bs : List ℕ) → is_inner b ≡ false → led left (b ∷ bs) ≡ led (width b - 1) bs
unfolding led
led-first left b bs first = rw first refl

led-one : (left b : ℕ) (bs : List ℕ) → b < 128 → led left (b ∷ bs) ≡ led 0 bs
led-one left b bs low =
    let first : is_inner b ≡ false = grind (arith, nat_tests) in
    let one : width b ≡ 1 = grind (arith, nat_tests) in
    led-first left b bs first ∙ ap (λ w. led (w - 1) bs) one

led-next : (left b : ℕ) (bs : List ℕ) → 0 < left → 128 ≤ b → b < 192 → led left (b ∷ bs) ≡ led (left - 1) bs
led-next left b bs some low high =
    let inner : is_inner b ≡ true = grind (arith, nat_tests) in
    let one : nat_le 1 left ≡ true = le-leb 1 left (omega (arith, some)) in
    led-inner left b bs inner ∙ rw one refl

led-start : (left b wide : ℕ) (bs : List ℕ) → 192 ≤ b → width b ≡ wide → led left (b ∷ bs) ≡ led (wide - 1) bs
led-start left b wide bs high is =
    let first : is_inner b ≡ false = grind (arith, nat_tests) in
    led-first left b bs first ∙ ap (λ w. led (w - 1) bs) is

-- so it is in texts of UTF-8
led-encode : (c : ℕ) (rest : List ℕ) → led 0 rest ≡ true → led 0 (encode c ++ rest) ≡ true
led-encode c rest later = by_bytes (λ bytes wide. led 0 (bytes ++ rest) ≡ true)
    (λ a low. led-one 0 a rest low ∙ later)
    (λ a b low high b_low b_high.
    let wide : width a ≡ 2 = grind (arith, nat_tests) in
    led-start 0 a 2 (b ∷ rest) low wide ∙ led-next 1 b rest (omega arith) b_low b_high ∙ later)
    (λ a b d low high b_low b_high d_low d_high.
    let wide : width a ≡ 3 = grind (arith, nat_tests) in
    led-start 0 a 3 (b ∷ d ∷ rest) (omega (arith, low)) wide ∙ led-next 2 b (d ∷ rest) (omega arith) b_low b_high ∙ led-next 1 d rest (omega arith) d_low d_high ∙ later)
    (λ a b d e low b_low b_high d_low d_high e_low e_high.
    let wide : width a ≡ 4 = grind (arith, nat_tests) in
    led-start 0 a 4 (b ∷ d ∷ e ∷ rest) (omega (arith, low)) wide ∙ led-next 3 b (d ∷ e ∷ rest) (omega arith) b_low b_high ∙ led-next 2 d (e ∷ rest) (omega arith) d_low d_high ∙ led-next 1 e rest (omega arith) e_low e_high ∙ later)
    c

led-encodes : (cs : List ℕ) → led 0 (encodes cs) ≡ true
led-encodes [] = led-none 0
led-encodes (c ∷ cs) = led-encode c (encodes cs) (led-encodes cs)

inner_inside : (b : ℕ) → is_inner b ≡ true → is_inside b ≡ true
inner_inside b inner = grind (arith, nat_tests)

first_wide : (b : ℕ) → is_inner b ≡ false → 1 ≤ width b
first_wide b first = grind (arith, nat_tests)

narrow : (b : ℕ) → width b ≤ 4
narrow b = grind (arith, nat_tests)

breaks_first : (room b : ℕ) → room < width b → is_inner b ≡ false
breaks_first room b more = grind (arith, nat_tests)

-- one byte more, and what follows it
one_more : (here b : ℕ) (rest : List ℕ) → 1 ≤ here → here ≤ 75 → ((h : ℕ) → here - 1 ≤ h → h ≤ 75 → fits_in h rest ≡ true) → fits_in here (b ∷ rest) ≡ true
one_more here b rest some small later = elim (cases_Bool (is_inside b)) [
  | inl inside ↦ fits_in-inside here b rest inside ∙ and_from (nat_le 1 here) (fits_in (here - 1) rest) (le-leb 1 here some) (later (here - 1) (omega arith) (omega (arith, small)))
  | inr end ↦ fits_in-end here b rest end ∙ later 75 (omega (arith, small)) (omega arith)
]

-- what is folded fits, if its characters are whole
folded_fits : (line more : List ℕ) (room left here : ℕ) → left ≤ room → room ≤ here → here ≤ 75 → (led 0 more ≡ true → fits_in 75 more ≡ true) → led left (folded room line ++ 13 ∷ 10 ∷ more) ≡ true → fits_in here (folded room line ++ 13 ∷ 10 ∷ more) ≡ true
folded_fits [] more room left here enough within small later whole =
    let is = ap (λ t. t ++ 13 ∷ 10 ∷ more) (folded-none room) in
    let after = sym (led-one left 13 (10 ∷ more) (omega arith) ∙ led-one 0 10 more (omega arith)) ∙ ap (led left) (sym is) ∙ whole in
    ap (fits_in here) is ∙ fits_in-end here 13 (10 ∷ more) refl ∙ fits_in-end 75 10 more refl ∙ later after
folded_fits (b ∷ bs) more room left here enough within small later whole = elim (cases_Bool (nat_le (width b) room)) [
  | inl fits ↦
      let wide = leb-true (width b) room fits in
      let rest = folded (room - 1) bs ++ 13 ∷ 10 ∷ more in
      let is = ap (λ t. t ++ 13 ∷ 10 ∷ more) (folded-fits room b bs wide) in
      let led_here : led left (b ∷ rest) ≡ true = ap (led left) (sym is) ∙ whole in
      ap (fits_in here) is ∙ elim (cases_Bool (is_inner b)) [
        | inl inner ↦
            let both = and_parts (nat_le 1 left) (led (left - 1) rest) (sym (led-inner left b rest inner) ∙ led_here) in
            let some = leb-true 1 left both.0 in
            one_more here b rest (omega (arith, some, enough, within)) small
            (λ h low high. folded_fits bs more (room - 1) (left - 1) h (omega (arith, enough)) (omega (arith, low, within)) high later both.1)
        | inr first ↦
            let some = first_wide b first in
            one_more here b rest (omega (arith, some, wide, within)) small
            (λ h low high. folded_fits bs more (room - 1) (width b - 1) h (omega (arith, wide)) (omega (arith, low, within)) high later (sym (led-first left b rest first) ∙ led_here))
      ]
  | inr breaks ↦
      let wide = leb-false (width b) room breaks in
      let first = breaks_first room b wide in
      let few = narrow b in
      let rest = folded 73 bs ++ 13 ∷ 10 ∷ more in
      let is = ap (λ t. t ++ 13 ∷ 10 ∷ more) (folded-breaks room b bs wide) in
      let led_there = led-one left 13 (10 ∷ 32 ∷ b ∷ rest) (omega arith) ∙ led-one 0 10 (32 ∷ b ∷ rest) (omega arith) ∙ led-one 0 32 (b ∷ rest) (omega arith) ∙ led-first 0 b rest first in
      let led_rest : led (width b - 1) rest ≡ true = sym led_there ∙ ap (led left) (sym is) ∙ whole in
      ap (fits_in here) is
      ∙ fits_in-end here 13 (10 ∷ 32 ∷ b ∷ rest) refl
      ∙ fits_in-end 75 10 (32 ∷ b ∷ rest) refl
      ∙ fits_in-inside 75 32 (b ∷ rest) refl
      ∙ one_more 74 b rest (omega arith) (omega arith)
      (λ h low high. folded_fits bs more 73 (width b - 1) h (omega (arith, few)) low high later led_rest)
]

sent_fits : (lines : List (List ℕ)) → led 0 (sent lines) ≡ true → fits_in 75 (sent lines) ≡ true
sent_fits [] whole = fits_in-none
sent_fits (line ∷ lines) whole =
    let is = sent_line-ends line (sent lines) in
    ap (fits_in 75) is ∙ folded_fits line (sent lines) 75 0 75 (omega arith) (omega arith) (omega arith) (sent_fits lines) (ap (led 0) (sym is) ∙ whole)

pub sent_lines_are_short : SentLinesAreShort
sent_lines_are_short lines text = short_lines (sent lines) (sent_fits lines (ap (led 0) (sym text.1.1) ∙ led-encodes text.0))
