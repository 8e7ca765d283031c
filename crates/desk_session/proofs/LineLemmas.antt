-- The lines of bytes that came one after another.
use Rattle.std.proofs.Common.{◌≡◌, ◌∙◌, ◌+◌, ◌<◌, ℕ, Bool, cond, List, [], ◌∷◌, ◌++◌, map, take, length, get_or, true, false, refl, sym, ap, subst, append_assoc, append-nil, arith}
use Rattle.std.proofs.lemmas.Bool.{false≢true}
use Rattle.std.proofs.lemmas.List.{take_more}
use Rattle.std.specs.Prelude.{IsTrue}
use Rattle.std.proofs.lemmas.List.Elements.{All-append, All-cons, All-head, All-nil, All-tail}
use Rattle.desk_session.specs.Lines.{HasNoEnd, IsFirstLine, NumberedLinesAreLines, ends_line, lines_from, number_after, numbered_from, unfinished_from}

pub unfinished_from-append : (begun some more : List ℕ) → unfinished_from begun (some ++ more) ≡ unfinished_from (unfinished_from begun some) more
unfolding unfinished_from
unfinished_from-append begun [] more = refl
unfinished_from-append begun (byte ∷ some) more = by (ends_line byte) (unfinished_from-append [] some more) (unfinished_from-append (begun ++ byte ∷ []) some more)
  where
    by : (ends : Bool) → unfinished_from [] (some ++ more) ≡ unfinished_from (unfinished_from [] some) more
        → unfinished_from (begun ++ byte ∷ []) (some ++ more) ≡ unfinished_from (unfinished_from (begun ++ byte ∷ []) some) more
        → cond ends (unfinished_from [] (some ++ more)) (unfinished_from (begun ++ byte ∷ []) (some ++ more))
        ≡ unfinished_from (cond ends (unfinished_from [] some) (unfinished_from (begun ++ byte ∷ []) some)) more
    by true ended other = ended
    by false ended other = other

pub lines_from-append : (begun some more : List ℕ) → lines_from begun (some ++ more) ≡ lines_from begun some ++ lines_from (unfinished_from begun some) more
unfolding lines_from unfinished_from
lines_from-append begun [] more = refl
lines_from-append begun (byte ∷ some) more = by (ends_line byte) (lines_from-append [] some more) (lines_from-append (begun ++ byte ∷ []) some more)
  where
    by : (ends : Bool) → lines_from [] (some ++ more) ≡ lines_from [] some ++ lines_from (unfinished_from [] some) more
        → lines_from (begun ++ byte ∷ []) (some ++ more) ≡ lines_from (begun ++ byte ∷ []) some ++ lines_from (unfinished_from (begun ++ byte ∷ []) some) more
        → cond ends (begun ∷ lines_from [] (some ++ more)) (lines_from (begun ++ byte ∷ []) (some ++ more))
        ≡ cond ends (begun ∷ lines_from [] some) (lines_from (begun ++ byte ∷ []) some) ++ lines_from (cond ends (unfinished_from [] some) (unfinished_from (begun ++ byte ∷ []) some)) more
    by true ended other = ap (λ (lines : List (List ℕ)). begun ∷ lines) ended
    by false ended other = other

-- a byte that ends the line that has begun
pub line_ends : (begun : List ℕ) (byte : ℕ) → ends_line byte ≡ true → lines_from begun (byte ∷ []) ≡ begun ∷ []
unfolding lines_from
line_ends begun byte ends = rw ends refl

pub next_begins : (begun : List ℕ) (byte : ℕ) → ends_line byte ≡ true → unfinished_from begun (byte ∷ []) ≡ []
unfolding unfinished_from
next_begins begun byte ends = rw ends refl

-- a byte that goes on with it
pub no_line_ends : (begun : List ℕ) (byte : ℕ) → ends_line byte ≡ false → lines_from begun (byte ∷ []) ≡ []
unfolding lines_from
no_line_ends begun byte goes_on = rw goes_on refl

pub line_goes_on : (begun : List ℕ) (byte : ℕ) → ends_line byte ≡ false → unfinished_from begun (byte ∷ []) ≡ begun ++ byte ∷ []
unfolding unfinished_from
line_goes_on begun byte goes_on = rw goes_on refl

-- bytes in which no line ends go on with the line that has begun
pub numbered_from-within : (number : ℕ) (begun some more : List ℕ) → HasNoEnd some → numbered_from number begun (some ++ more) ≡ numbered_from number (begun ++ some) more
unfolding numbered_from
numbered_from-within number begun [] more none = ap (λ (b : List ℕ). numbered_from number b more) (sym (append-nil begun))
numbered_from-within number begun (byte ∷ some) more none =
    rw (All-head (λ (b : ℕ). ends_line b ≡ false) byte some none)
    (numbered_from-within number (begun ++ byte ∷ []) some more (All-tail (λ (b : ℕ). ends_line b ≡ false) byte some none)
    ∙ ap (λ (b : List ℕ). numbered_from number b more) (append_assoc begun (byte ∷ []) some))

pub numbered_from-ends : (number : ℕ) (begun : List ℕ) (end : ℕ) (more : List ℕ) → ends_line end ≡ true → numbered_from number begun (end ∷ more) ≡ (number, begun) ∷ numbered_from (number_after number end) [] more
unfolding numbered_from
numbered_from-ends number begun end more ends = rw ends refl

-- the first line, and those after it
pub numbered_from-first : (number : ℕ) (bytes line : List ℕ) (end : ℕ) (rest : List ℕ) → IsFirstLine bytes line end rest → numbered_from number [] bytes ≡ (number, line) ∷ numbered_from (number_after number end) [] rest
numbered_from-first number bytes line end rest first =
    ap (numbered_from number []) first.parts
    ∙ numbered_from-within number [] line (end ∷ rest) first.within
    ∙ numbered_from-ends number line end rest first.ends

-- no line
pub numbered_from-none : (number : ℕ) (bytes : List ℕ) → HasNoEnd bytes → numbered_from number [] bytes ≡ []
unfolding numbered_from
numbered_from-none number bytes none = ap (numbered_from number []) (sym (append-nil bytes)) ∙ numbered_from-within number [] bytes [] none

-- a line whose end comes later goes on with its bytes
pub unfinished_within : (begun some : List ℕ) → HasNoEnd some → unfinished_from begun some ≡ begun ++ some
unfolding unfinished_from
unfinished_within begun [] none = sym (append-nil begun)
unfinished_within begun (byte ∷ some) none =
    rw (All-head (λ (b : ℕ). ends_line b ≡ false) byte some none)
    (unfinished_within (begun ++ byte ∷ []) some (All-tail (λ (b : ℕ). ends_line b ≡ false) byte some none) ∙ append_assoc begun (byte ∷ []) some)

-- whether the last line has an end
pub finished_by : (begun some : List ℕ) (byte : ℕ) → ends_line byte ≡ true → unfinished_from begun (some ++ byte ∷ []) ≡ []
finished_by begun some byte ends = unfinished_from-append begun some (byte ∷ []) ∙ next_begins (unfinished_from begun some) byte ends

pub unfinished_by : (begun some : List ℕ) (byte : ℕ) → ends_line byte ≡ false → unfinished_from begun (some ++ byte ∷ []) ≡ unfinished_from begun some ++ byte ∷ []
unfinished_by begun some byte goes_on = unfinished_from-append begun some (byte ∷ []) ∙ line_goes_on (unfinished_from begun some) byte goes_on

pub finished_if : (bytes some : List ℕ) (byte : ℕ) (ends : Bool) → bytes ≡ some ++ byte ∷ [] → ends ≡ ends_line byte → (IsTrue ends → unfinished_from [] bytes ≡ []) × (unfinished_from [] bytes ≡ [] → IsTrue ends)
finished_if bytes some byte true is ends = (
  λ yes. ap (unfinished_from []) is ∙ finished_by [] some byte (sym ends),
  λ none. refl,
)
finished_if bytes some byte false is ends = (
  λ yes. absurd (false≢true yes),
  λ none. absurd (no_nil (unfinished_from [] some) byte (sym (ap (unfinished_from []) is ∙ unfinished_by [] some byte (sym ends)) ∙ none)),
)
  where
    no_nil : (some : List ℕ) (byte : ℕ) → some ++ byte ∷ [] ≡ [] → ⊥
    no_nil [] byte is = cc is
    no_nil (first ∷ some) byte is = cc is

-- one byte more that ends no line
pub no_end_more : (bytes : List ℕ) (place : ℕ) → place < length bytes → HasNoEnd (take place bytes) → ends_line (get_or bytes place 0) ≡ false → HasNoEnd (take (place + 1) bytes)
no_end_more bytes place within so_far goes_on =
    subst HasNoEnd (sym (take_more bytes place 0 within))
    (All-append (λ (b : ℕ). ends_line b ≡ false) (take place bytes) (get_or bytes place 0 ∷ []) so_far (All-cons (λ (b : ℕ). ends_line b ≡ false) (get_or bytes place 0) [] goes_on (All-nil (λ (b : ℕ). ends_line b ≡ false))))

pub finished_nil : (bytes : List ℕ) → length bytes ≡ 0 → unfinished_from [] bytes ≡ []
unfolding unfinished_from
finished_nil [] none = refl
finished_nil (byte ∷ bytes) none = absurd (omega (arith, none))

-- the lines that are numbered
numbered_lines_from : (number : ℕ) (begun bytes : List ℕ) → map (λ line. line.1) (numbered_from number begun bytes) ≡ lines_from begun bytes
unfolding numbered_from lines_from
numbered_lines_from number begun [] = refl
numbered_lines_from number begun (byte ∷ bytes) = by (ends_line byte) (numbered_lines_from (number_after number byte) [] bytes) (numbered_lines_from number (begun ++ byte ∷ []) bytes)
  where
    by : (ends : Bool) → map (λ line. line.1) (numbered_from (number_after number byte) [] bytes) ≡ lines_from [] bytes
        → map (λ line. line.1) (numbered_from number (begun ++ byte ∷ []) bytes) ≡ lines_from (begun ++ byte ∷ []) bytes
        → map (λ line. line.1) (cond ends ((number, begun) ∷ numbered_from (number_after number byte) [] bytes) (numbered_from number (begun ++ byte ∷ []) bytes))
        ≡ cond ends (begun ∷ lines_from [] bytes) (lines_from (begun ++ byte ∷ []) bytes)
    by true ended other = ap (λ (lines : List (List ℕ)). begun ∷ lines) ended
    by false ended other = other

-- the first line of bytes, with its end, is their one line
pub lines_of_first : (line : List ℕ) (end : ℕ) → HasNoEnd line → ends_line end ≡ true → lines_from [] (line ++ end ∷ []) ≡ line ∷ []
unfolding numbered_from
lines_of_first line end none ends =
    sym (numbered_lines_from 1 [] (line ++ end ∷ []))
    ∙ ap (map (λ line. line.1)) (numbered_from-first 1 (line ++ end ∷ []) line end [] (record { parts = refl; within = none; ends = ends }))

pub lines_of_none : (bytes : List ℕ) → HasNoEnd bytes → lines_from [] bytes ≡ []
lines_of_none bytes none = sym (numbered_lines_from 1 [] bytes) ∙ ap (map (λ line. line.1)) (numbered_from-none 1 bytes none)

pub numbered_lines_are_lines_lem : NumberedLinesAreLines
numbered_lines_are_lines_lem bytes = numbered_lines_from 1 [] bytes
