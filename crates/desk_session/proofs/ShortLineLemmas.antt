-- Short lines of bytes that came one after another, and what lines they are.
use Rattle.std.proofs.Common.{◌≡◌, ◌∙◌, ◌+◌, ◌<◌, ◌≤◌, ℕ, List, [], ◌∷◌, ◌++◌, take, drop, length, get_or, set, refl, sym, ap, append_assoc, append-nil, arith}
use Rattle.std.proofs.lemmas.List.{drop-set-lt, drop_more, take_more, take_more_set}
use Rattle.std.specs.Io.KnownBytes.{Consumes, IsAtEnd, Keeps}
use Rattle.std.specs.Prelude.{Option, None, Some, option_map}
use Rattle.desk_session.specs.ShortLines.{count_after, count_with, passed_on, short_from}

pub short_from-append : (count : ℕ) (some more : List ℕ) → short_from count (some ++ more) ≡ short_from count some ++ short_from (count_after count some) more
unfolding short_from count_after
short_from-append count [] more = refl
short_from-append count (byte ∷ some) more =
    ap (λ (later : List ℕ). passed_on count byte ++ later) (short_from-append (count_with count byte) some more)
    ∙ sym (append_assoc (passed_on count byte) (short_from (count_with count byte) some) (short_from (count_after (count_with count byte) some) more))

pub count_after-append : (count : ℕ) (some more : List ℕ) → count_after count (some ++ more) ≡ count_after (count_after count some) more
unfolding count_after
count_after-append count [] more = refl
count_after-append count (byte ∷ some) more = count_after-append (count_with count byte) some more

-- one byte more
pub short_from-more : (count : ℕ) (some : List ℕ) (byte : ℕ) → short_from count (some ++ byte ∷ []) ≡ short_from count some ++ passed_on (count_after count some) byte
unfolding short_from
short_from-more count some byte =
    short_from-append count some (byte ∷ []) ∙ ap (λ (last : List ℕ). short_from count some ++ last) (append-nil (passed_on (count_after count some) byte))

pub count_after-more : (count : ℕ) (some : List ℕ) (byte : ℕ) → count_after count (some ++ byte ∷ []) ≡ count_with (count_after count some) byte
unfolding count_after
count_after-more count some byte = count_after-append count some (byte ∷ [])

-- Of the first bytes of a list, what is left is in its first places, and the bytes after them are as they were.
pub record ShortensInPlace (count : ℕ) (bytes now : List ℕ) (kept place then : ℕ) : Type 0 where
  pub before : kept ≤ place
  pub left : take kept now ≡ short_from count (take place bytes)
  pub rest : drop place now ≡ drop place bytes
  pub come : then ≡ count_after count (take place bytes)

pub shortens_none : (count : ℕ) (bytes : List ℕ) → ShortensInPlace count bytes bytes 0 0 count
unfolding short_from count_after
shortens_none count bytes = record { before = omega arith; left = refl; rest = refl; come = refl }

module _ (count : ℕ) (bytes now : List ℕ) (kept place then : ℕ) (so_far : ShortensInPlace count bytes now kept place then) (long : length now ≡ length bytes) (within : place < length now) where
  -- the byte there is still as it was, and so are those after it
  same_there : (get_or now place 0 ≡ get_or bytes place 0) × (drop (place + 1) now ≡ drop (place + 1) bytes)
  same_there =
      let e = sym (drop_more now place 0 within) ∙ so_far.rest ∙ drop_more bytes place 0 (omega arith) in
      (cc, cc)

  all_so_far : take (place + 1) bytes ≡ take place bytes ++ get_or now place 0 ∷ []
  all_so_far = take_more bytes place 0 (omega arith) ∙ ap (λ (b : ℕ). take place bytes ++ b ∷ []) (sym same_there.0)

  left_so_far : short_from count (take (place + 1) bytes) ≡ take kept now ++ passed_on then (get_or now place 0)
  left_so_far =
      ap (short_from count) all_so_far
      ∙ short_from-more count (take place bytes) (get_or now place 0)
      ∙ ap (λ (b : List ℕ). b ++ passed_on (count_after count (take place bytes)) (get_or now place 0)) (sym so_far.left)
      ∙ ap (λ (n : ℕ). take kept now ++ passed_on n (get_or now place 0)) (sym so_far.come)

  come_so_far : (next : ℕ) → next ≡ count_with then (get_or now place 0) → next ≡ count_after count (take (place + 1) bytes)
  come_so_far next is =
      is
      ∙ ap (λ (n : ℕ). count_with n (get_or now place 0)) so_far.come
      ∙ sym (count_after-more count (take place bytes) (get_or now place 0))
      ∙ ap (count_after count) (sym all_so_far)

  -- a byte of which nothing is passed on
  pub shortens_past : (next : ℕ) → [] ≡ passed_on then (get_or now place 0) → next ≡ count_with then (get_or now place 0) → ShortensInPlace count bytes now kept (place + 1) next
  shortens_past next nothing is = record {
    before = omega (arith, so_far.before);
    left = sym (append-nil (take kept now)) ∙ ap (λ (b : List ℕ). take kept now ++ b) nothing ∙ sym left_so_far;
    rest = same_there.1;
    come = come_so_far next is;
  }

  -- a byte of which one is passed on
  pub shortens_more : (next byte : ℕ) → byte ∷ [] ≡ passed_on then (get_or now place 0) → next ≡ count_with then (get_or now place 0) → ShortensInPlace count bytes (set now kept byte) (kept + 1) (place + 1) next
  shortens_more next byte one is = record {
    before = omega (arith, so_far.before);
    left = take_more_set now kept byte (omega (arith, so_far.before)) ∙ ap (λ (b : List ℕ). take kept now ++ b) one ∙ sym left_so_far;
    rest = drop-set-lt (place + 1) now kept byte (omega (arith, so_far.before)) ∙ same_there.1;
    come = come_so_far next is;
  }

-- what a read leaves to come
pub short_read : (first : Option (List ℕ)) (count : ℕ) (before after : Option (List ℕ)) (bytes : List ℕ) → Keeps first (option_map (short_from count) before) → Consumes before after bytes → Consumes first (option_map (short_from (count_after count bytes)) after) (short_from count bytes)
short_read None count before after bytes kept consumed = tt
short_read (Some first) count None after bytes kept consumed = absurd kept
short_read (Some first) count (Some before) None bytes kept consumed = absurd consumed
short_read (Some first) count (Some before) (Some after) bytes kept consumed = sym kept ∙ ap (short_from count) consumed ∙ short_from-append count bytes after

pub short_end : (count : ℕ) (after : Option (List ℕ)) → IsAtEnd after → IsAtEnd (option_map (short_from count) after)
unfolding short_from
short_end count None ended = tt
short_end count (Some after) ended = ap (short_from count) ended

pub nothing_read : (before after : Option (List ℕ)) (bytes : List ℕ) → bytes ≡ [] → Consumes before after bytes → Keeps before after
nothing_read None after bytes none consumed = tt
nothing_read (Some before) None bytes none consumed = absurd consumed
nothing_read (Some before) (Some after) bytes none consumed = sym (consumed ∙ ap (λ (b : List ℕ). b ++ after) none)
