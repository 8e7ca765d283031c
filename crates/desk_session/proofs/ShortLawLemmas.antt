-- What lines bytes with short lines have.
use Rattle.std.proofs.Common.{◌≡◌, ◌∙◌, ◌+◌, ◌<◌, ◌≤◌, ℕ, List, [], ◌∷◌, ◌++◌, map, take, length, get_or, true, false, refl, sym, ap, subst, inl, inr, arith}
use Rattle.std.proofs.lemmas.Bool.{and_left, and_right, cases_Bool, cases_lt, eq-eqb, le-ltb, lt-ltb, ne_eqb, not_from_true}
use Rattle.std.proofs.lemmas.List.{length_push, take_at, take-append-le, length-take}
use Rattle.std.proofs.lemmas.List.Elements.{All-head, All-map, All-rest, All-same}
use Rattle.std.proofs.lemmas.Str.{IsUtf8-drop, IsUtf8-from_is_utf8, is_utf8-from_IsUtf8}
use Rattle.std.proofs.Math.Seq.{drop-append_seam, get_or-append_seam}
use Rattle.std.specs.Prelude.{◌==◌, All, min, not}
use Rattle.std.specs.Str.{IsUtf8, chars, is_utf8}
use Rattle.desk_session.specs.Lines.{ends_line, lines_from, lines_of, unfinished_from, unfinished_of}
use Rattle.desk_session.specs.ShortLines.{CutLinesAreNoText, LongLinesAreCut, ShortLinesAreShort, ShortLinesStay, ShortLinesStopNone, cut, ended_last, most_line, most_whole, open_last, short_from, short_lines}

-- a byte that ends a line, or goes on with it
lines-ends : (begun : List ℕ) (byte : ℕ) (bytes : List ℕ) → ends_line byte ≡ true → lines_from begun (byte ∷ bytes) ≡ begun ∷ lines_from [] bytes
unfolding lines_from
lines-ends begun byte bytes ends = rw ends refl

lines-goes_on : (begun : List ℕ) (byte : ℕ) (bytes : List ℕ) → ends_line byte ≡ false → lines_from begun (byte ∷ bytes) ≡ lines_from (begun ++ byte ∷ []) bytes
unfolding lines_from
lines-goes_on begun byte bytes goes_on = rw goes_on refl

last-ends : (begun : List ℕ) (byte : ℕ) (bytes : List ℕ) → ends_line byte ≡ true → unfinished_from begun (byte ∷ bytes) ≡ unfinished_from [] bytes
unfolding unfinished_from
last-ends begun byte bytes ends = rw ends refl

last-goes_on : (begun : List ℕ) (byte : ℕ) (bytes : List ℕ) → ends_line byte ≡ false → unfinished_from begun (byte ∷ bytes) ≡ unfinished_from (begun ++ byte ∷ []) bytes
unfolding unfinished_from
last-goes_on begun byte bytes goes_on = rw goes_on refl

-- one byte more is passed on than stays
one_more : most_line ≡ most_whole + 1
unfolding most_line most_whole
one_more = refl

-- what becomes of a byte: of one that ends a line, or goes on with one, that isn't too long
short-ends : (count byte : ℕ) (bytes : List ℕ) → ends_line byte ≡ true → count ≤ most_line → short_from count (byte ∷ bytes) ≡ byte ∷ short_from 0 bytes
unfolding short_from
short-ends count byte bytes ends within =
    let fits = le-ltb most_line count within in
    let stays = and_right (count == most_line) (not (ends_line byte)) (not_from_true (ends_line byte) ends) in
    let whole = and_right (count == most_whole) (not (ends_line byte)) (not_from_true (ends_line byte) ends) in
    rw (fits, stays, whole, ends) refl

short-goes_on : (count byte : ℕ) (bytes : List ℕ) → ends_line byte ≡ false → count < most_whole → short_from count (byte ∷ bytes) ≡ byte ∷ short_from (count + 1) bytes
unfolding short_from
short-goes_on count byte bytes goes_on within =
    let fits = le-ltb most_line count (omega (arith, one_more, within)) in
    let stays = and_left (count == most_line) (not (ends_line byte)) (ne_eqb count most_line (λ is. omega (arith, one_more, is, within))) in
    let whole = and_left (count == most_whole) (not (ends_line byte)) (ne_eqb count most_whole (λ is. omega (arith, is, within))) in
    let counted : min count most_line + 1 ≡ count + 1 = omega (arith, one_more, within) in
    rw (fits, stays, whole, goes_on, counted) refl

-- of the first byte too many
short-cut : (count byte : ℕ) (bytes : List ℕ) → ends_line byte ≡ false → count ≡ most_whole → short_from count (byte ∷ bytes) ≡ 255 ∷ short_from (count + 1) bytes
unfolding short_from
short-cut count byte bytes goes_on whole =
    let fits = le-ltb most_line count (omega (arith, one_more, whole)) in
    let stays = and_left (count == most_line) (not (ends_line byte)) (ne_eqb count most_line (λ is. omega (arith, one_more, is, whole))) in
    let cut_there = eq-eqb count most_whole whole in
    let counted : min count most_line + 1 ≡ count + 1 = omega (arith, one_more, whole) in
    rw (fits, stays, cut_there, goes_on, counted) refl

-- of the second
short-ended : (count byte : ℕ) (bytes : List ℕ) → ends_line byte ≡ false → count ≡ most_line → short_from count (byte ∷ bytes) ≡ 10 ∷ short_from (most_line + 1) bytes
unfolding short_from
short-ended count byte bytes goes_on all =
    let fits = le-ltb most_line count (omega (arith, all)) in
    let ends = eq-eqb count most_line all in
    let counted : min count most_line + 1 ≡ most_line + 1 = omega (arith, all) in
    rw (fits, ends, goes_on, counted) refl

-- of those after it
past-ends : (byte : ℕ) (bytes : List ℕ) → ends_line byte ≡ true → short_from (most_line + 1) (byte ∷ bytes) ≡ short_from 0 bytes
unfolding short_from
past-ends byte bytes ends =
    let past = lt-ltb most_line (most_line + 1) (omega arith) in
    rw (past, ends) refl

past-goes_on : (byte : ℕ) (bytes : List ℕ) → ends_line byte ≡ false → short_from (most_line + 1) (byte ∷ bytes) ≡ short_from (most_line + 1) bytes
unfolding short_from
past-goes_on byte bytes goes_on =
    let past = lt-ltb most_line (most_line + 1) (omega arith) in
    let counted : min (most_line + 1) most_line + 1 ≡ most_line + 1 = omega arith in
    rw (past, goes_on, counted) refl

-- ---- bytes whose lines are short

record Fit (most : ℕ) (begun bytes : List ℕ) : Type 0 where
  lines : All (λ line. length line ≤ most) (lines_from begun bytes)
  last : length (unfinished_from begun bytes) ≤ most

fit-ends : (most : ℕ) (begun : List ℕ) (byte : ℕ) (bytes : List ℕ) → ends_line byte ≡ true → Fit most begun (byte ∷ bytes) → Fit most [] bytes
fit-ends most begun byte bytes ends fit = record {
  lines = All-rest (λ line. length line ≤ most) begun (lines_from [] bytes) (lines_from begun (byte ∷ bytes)) (lines-ends begun byte bytes ends) fit.lines;
  last = subst (λ (l : List ℕ). length l ≤ most) (last-ends begun byte bytes ends) fit.last;
}

fit-goes_on : (most : ℕ) (begun : List ℕ) (byte : ℕ) (bytes : List ℕ) → ends_line byte ≡ false → Fit most begun (byte ∷ bytes) → Fit most (begun ++ byte ∷ []) bytes
fit-goes_on most begun byte bytes goes_on fit = record {
  lines = subst (λ (l : List (List ℕ)). All (λ line. length line ≤ most) l) (lines-goes_on begun byte bytes goes_on) fit.lines;
  last = subst (λ (l : List ℕ). length l ≤ most) (last-goes_on begun byte bytes goes_on) fit.last;
}

-- then the line that has begun is short
begun_fits : (most : ℕ) (begun bytes : List ℕ) → Fit most begun bytes → length begun ≤ most
unfolding unfinished_from
begun_fits most begun [] fit = fit.last
begun_fits most begun (byte ∷ bytes) fit =
    elim (cases_Bool (ends_line byte)) [
      | inl ends ↦ All-head (λ line. length line ≤ most) begun (lines_from [] bytes) (subst (λ (l : List (List ℕ)). All (λ line. length line ≤ most) l) (lines-ends begun byte bytes ends) fit.lines)
      | inr goes_on ↦ omega (arith, length_push begun byte, begun_fits most (begun ++ byte ∷ []) bytes (fit-goes_on most begun byte bytes goes_on fit))
    ]

-- also after the first of them
front_fits : (most : ℕ) (begun front rest : List ℕ) → Fit most begun (front ++ rest) → length (unfinished_from begun front) ≤ most
unfolding unfinished_from
front_fits most begun [] rest fit = begun_fits most begun rest fit
front_fits most begun (byte ∷ front) rest fit =
    elim (cases_Bool (ends_line byte)) [
      | inl ends ↦ subst (λ (l : List ℕ). length l ≤ most) (sym (last-ends begun byte front ends)) (front_fits most [] front rest (fit-ends most begun byte (front ++ rest) ends fit))
      | inr goes_on ↦ subst (λ (l : List ℕ). length l ≤ most) (sym (last-goes_on begun byte front goes_on)) (front_fits most (begun ++ byte ∷ []) front rest (fit-goes_on most begun byte (front ++ rest) goes_on fit))
    ]

-- and they stay as they are
fit_stay : (begun bytes : List ℕ) → Fit most_whole begun bytes → short_from (length begun) bytes ≡ bytes
unfolding short_from
fit_stay begun [] fit = refl
fit_stay begun (byte ∷ bytes) fit =
    elim (cases_Bool (ends_line byte)) [
      | inl ends ↦
          short-ends (length begun) byte bytes ends (omega (arith, one_more, begun_fits most_whole begun (byte ∷ bytes) fit))
          ∙ ap (λ (l : List ℕ). byte ∷ l) (fit_stay [] bytes (fit-ends most_whole begun byte bytes ends fit))
      | inr goes_on ↦
          let longer = fit-goes_on most_whole begun byte bytes goes_on fit in
          let more = length_push begun byte in
          short-goes_on (length begun) byte bytes goes_on (omega (arith, more, begun_fits most_whole (begun ++ byte ∷ []) bytes longer))
          ∙ ap (λ (n : ℕ). byte ∷ short_from n bytes) (sym more)
          ∙ ap (λ (l : List ℕ). byte ∷ l) (fit_stay (begun ++ byte ∷ []) bytes longer)
    ]

-- ---- lines that are cut

cut_whole : (line : List ℕ) → length line ≤ most_whole → cut line ≡ line
unfolding cut
cut_whole line within = let fits = le-ltb most_whole (length line) within in rw fits refl

cut_long : (line : List ℕ) → most_whole < length line → cut line ≡ take most_whole line ++ 255 ∷ []
unfolding cut
cut_long line over = let long = lt-ltb most_whole (length line) over in rw long refl

-- with one byte more: one that stays, the first too many, and each after it
cut-stays : (begun : List ℕ) (byte : ℕ) → length begun < most_whole → cut (begun ++ byte ∷ []) ≡ cut begun ++ byte ∷ []
cut-stays begun byte room =
    cut_whole (begun ++ byte ∷ []) (omega (arith, length_push begun byte, room))
    ∙ ap (λ (l : List ℕ). l ++ byte ∷ []) (sym (cut_whole begun (omega (arith, room))))

cut-first : (begun : List ℕ) (byte : ℕ) → length begun ≡ most_whole → cut (begun ++ byte ∷ []) ≡ cut begun ++ 255 ∷ []
cut-first begun byte whole =
    cut_long (begun ++ byte ∷ []) (omega (arith, length_push begun byte, whole))
    ∙ ap (λ (l : List ℕ). l ++ 255 ∷ []) (take_at begun (byte ∷ []) most_whole whole ∙ sym (cut_whole begun (omega (arith, whole))))

cut-more : (begun : List ℕ) (byte : ℕ) → most_whole < length begun → cut (begun ++ byte ∷ []) ≡ cut begun
cut-more begun byte over =
    cut_long (begun ++ byte ∷ []) (omega (arith, length_push begun byte, over))
    ∙ ap (λ (l : List ℕ). l ++ 255 ∷ []) (take-append-le most_whole begun (byte ∷ []) (omega (arith, over)))
    ∙ sym (cut_long begun over)

-- what the lines and the last one become, where one has begun
record CutTo (begun bytes : List ℕ) (lines : List (List ℕ)) (last : List ℕ) : Type 0 where
  lines_are : lines ≡ map cut (lines_from begun bytes ++ ended_last (unfinished_from begun bytes))
  last_is : last ≡ open_last (unfinished_from begun bytes)

-- where it has not been ended, and where it has
record Cuts (bytes : List ℕ) : Type 0 where
  short : (begun : List ℕ) → length begun ≤ most_line → CutTo begun bytes (lines_from (cut begun) (short_from (length begun) bytes)) (unfinished_from (cut begun) (short_from (length begun) bytes))
  long : (begun : List ℕ) → most_line < length begun → CutTo begun bytes (cut begun ∷ lines_from [] (short_from (most_line + 1) bytes)) (unfinished_from [] (short_from (most_line + 1) bytes))

cuts_none : Cuts []
unfolding lines_from unfinished_from short_from
cuts_none = record {
  short = λ begun within. let fits = le-ltb most_line (length begun) within in record { lines_are = rw fits refl; last_is = rw fits refl };
  long = λ begun over. let long = lt-ltb most_line (length begun) over in record { lines_are = rw long refl; last_is = rw long refl };
}

-- where none has begun
cuts_begin : (bytes : List ℕ) → Cuts bytes → CutTo [] bytes (lines_from [] (short_from 0 bytes)) (unfinished_from [] (short_from 0 bytes))
cuts_begin bytes cuts =
    subst (λ (l : List ℕ). CutTo [] bytes (lines_from l (short_from 0 bytes)) (unfinished_from l (short_from 0 bytes))) (cut_whole [] (omega arith)) (cuts.short [] (omega arith))

-- a byte that ends a line
cut-ends : (begun : List ℕ) (byte : ℕ) (bytes : List ℕ) (lines : List (List ℕ)) (last : List ℕ) → ends_line byte ≡ true → CutTo [] bytes lines last → CutTo begun (byte ∷ bytes) (cut begun ∷ lines) last
cut-ends begun byte bytes lines last ends later = record {
  lines_are = rw (lines-ends begun byte bytes ends, last-ends begun byte bytes ends) (ap (λ (l : List (List ℕ)). cut begun ∷ l) later.lines_are);
  last_is = rw (last-ends begun byte bytes ends) later.last_is;
}

-- one that goes on with it
cut-goes_on : (begun : List ℕ) (byte : ℕ) (bytes : List ℕ) (lines : List (List ℕ)) (last : List ℕ) → ends_line byte ≡ false → CutTo (begun ++ byte ∷ []) bytes lines last → CutTo begun (byte ∷ bytes) lines last
cut-goes_on begun byte bytes lines last goes_on later = record {
  lines_are = rw (lines-goes_on begun byte bytes goes_on, last-goes_on begun byte bytes goes_on) later.lines_are;
  last_is = rw (last-goes_on begun byte bytes goes_on) later.last_is;
}

-- and of which a byte is passed on that goes on with the line
cuts_on : (begun : List ℕ) (byte one : ℕ) (bytes : List ℕ) → Cuts bytes → ends_line byte ≡ false → ends_line one ≡ false → length begun < most_line → cut (begun ++ byte ∷ []) ≡ cut begun ++ one ∷ []
    → CutTo begun (byte ∷ bytes) (lines_from (cut begun) (one ∷ short_from (length begun + 1) bytes)) (unfinished_from (cut begun) (one ∷ short_from (length begun + 1) bytes))
cuts_on begun byte one bytes later goes_on passes room is =
    let more = length_push begun byte in
    let rest = short_from (length begun + 1) bytes in
    let longer = later.short (begun ++ byte ∷ []) (omega (arith, more, room)) in
    rw (lines-goes_on (cut begun) one rest passes, last-goes_on (cut begun) one rest passes, ← is, ← more) (cut-goes_on begun byte bytes _ _ goes_on longer)

cuts_short : (byte : ℕ) (bytes : List ℕ) → Cuts bytes → (begun : List ℕ) → length begun ≤ most_line
    → CutTo begun (byte ∷ bytes) (lines_from (cut begun) (short_from (length begun) (byte ∷ bytes))) (unfinished_from (cut begun) (short_from (length begun) (byte ∷ bytes)))
cuts_short byte bytes later begun within =
    elim (cases_Bool (ends_line byte)) [
      | inl ends ↦
          rw (short-ends (length begun) byte bytes ends within, lines-ends (cut begun) byte (short_from 0 bytes) ends, last-ends (cut begun) byte (short_from 0 bytes) ends)
          (cut-ends begun byte bytes _ _ ends (cuts_begin bytes later))
      | inr goes_on ↦ elim (cases_lt (length begun) most_whole) [
        | inl room ↦
            rw (short-goes_on (length begun) byte bytes goes_on room)
            (cuts_on begun byte byte bytes later goes_on goes_on (omega (arith, one_more, room)) (cut-stays begun byte room))
        | inr full ↦ elim (cases_lt (length begun) most_line) [
          | inl room ↦
              let whole : length begun ≡ most_whole = omega (arith, one_more, full, room) in
              rw (short-cut (length begun) byte bytes goes_on whole)
              (cuts_on begun byte 255 bytes later goes_on refl room (cut-first begun byte whole))
          | inr over ↦
              let all : length begun ≡ most_line = omega (arith, over, within) in
              let rest = short_from (most_line + 1) bytes in
              rw (short-ended (length begun) byte bytes goes_on all, lines-ends (cut begun) 10 rest refl, last-ends (cut begun) 10 rest refl, ← (cut-more begun byte (omega (arith, one_more, all))))
              (cut-goes_on begun byte bytes _ _ goes_on (later.long (begun ++ byte ∷ []) (omega (arith, length_push begun byte, all))))
        ]
      ]
    ]

cuts_long : (byte : ℕ) (bytes : List ℕ) → Cuts bytes → (begun : List ℕ) → most_line < length begun
    → CutTo begun (byte ∷ bytes) (cut begun ∷ lines_from [] (short_from (most_line + 1) (byte ∷ bytes))) (unfinished_from [] (short_from (most_line + 1) (byte ∷ bytes)))
cuts_long byte bytes later begun over =
    elim (cases_Bool (ends_line byte)) [
      | inl ends ↦ rw (past-ends byte bytes ends) (cut-ends begun byte bytes _ _ ends (cuts_begin bytes later))
      | inr goes_on ↦
          let same = cut-more begun byte (omega (arith, one_more, over)) in
          rw (past-goes_on byte bytes goes_on, ← same) (cut-goes_on begun byte bytes _ _ goes_on (later.long (begun ++ byte ∷ []) (omega (arith, length_push begun byte, over))))
    ]

cuts : (bytes : List ℕ) → Cuts bytes
cuts [] = cuts_none
cuts (byte ∷ bytes) = let later = cuts bytes in record { short = cuts_short byte bytes later; long = cuts_long byte bytes later }

pub are_cut : LongLinesAreCut
are_cut bytes = let all = cuts_begin bytes (cuts bytes) in record { lines = all.lines_are; last = all.last_is }

-- so they are short
cut_fits : (line : List ℕ) → length (cut line) ≤ most_line
cut_fits line =
    elim (cases_lt most_whole (length line)) [
      | inl over ↦ rw (cut_long line over) (omega (arith, one_more, length_push (take most_whole line) 255, length-take most_whole line))
      | inr within ↦ rw (cut_whole line within) (omega (arith, one_more, within))
    ]

open_fits : (last : List ℕ) → length (open_last last) ≤ most_line
open_fits last =
    elim (cases_lt most_line (length last)) [
      | inl over ↦ rw (lt-ltb most_line (length last) over) (omega arith)
      | inr within ↦ rw (le-ltb most_line (length last) within) (cut_fits last)
    ]

pub are_short : ShortLinesAreShort
are_short bytes =
    let parts = are_cut bytes in
    let all = lines_of bytes ++ ended_last (unfinished_of bytes) in
    let Fits : List ℕ → Type 0 = λ line. length line ≤ most_line in
    record {
      lines = All-same Fits (lines_of (short_lines bytes)) (map cut all) parts.lines (All-map Fits cut all (λ k d within. cut_fits (get_or all k d)));
      last = subst Fits (sym parts.last) (open_fits (unfinished_of bytes));
    }

pub stop_none : ShortLinesStopNone
unfolding most_line
stop_none bytes (front, rest, parts, over) =
    let short = are_short bytes in
    let fits = front_fits most_line [] front rest (record {
      lines = subst (λ (b : List ℕ). All (λ line. length line ≤ most_line) (lines_of b)) parts short.lines;
      last = subst (λ (b : List ℕ). length (unfinished_of b) ≤ most_line) parts short.last;
    }) in
    omega (arith, fits, over)

pub stay : ShortLinesStay
stay bytes short = fit_stay [] bytes (record { lines = short.lines; last = short.last })

-- ---- what is left of a line that is cut is no text

-- A text may be cut before a byte that isn't in the middle of a character, and the byte 255 alone is no text.
ends_badly : (front : List ℕ) → IsUtf8 (front ++ 255 ∷ []) → ⊥
unfolding is_utf8 chars
ends_badly front text =
    let long = length_push front 255 in
    let last = IsUtf8-drop (front ++ 255 ∷ []) (length front) text (omega (arith, long), λ within high. omega (arith, get_or-append_seam front 255 [] 0)) in
    let alone : IsUtf8 (255 ∷ []) = subst IsUtf8 (drop-append_seam front (255 ∷ [])) last in
    let false_there : false ≡ true = is_utf8-from_IsUtf8 (255 ∷ []) alone in
    cc

pub no_text : CutLinesAreNoText
no_text line over =
    elim (cases_Bool (is_utf8 (cut line))) [
      | inl text ↦ absurd (ends_badly (take most_whole line) (subst IsUtf8 (cut_long line over) (IsUtf8-from_is_utf8 (cut line) text)))
      | inr none ↦ none
    ]
