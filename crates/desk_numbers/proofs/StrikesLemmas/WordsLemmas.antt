-- The words of a line: it is cut at the first blank, and what is left at the next.
use Rattle.std.proofs.Common.{◌≡◌, ◌∙◌, ◌+◌, ◌<◌, ◌&&◌, ℕ, suc, Bool, true, false, not, cond, List, [], ◌∷◌, ◌++◌, Option, Some, None, drop, length, nat_eq, refl, sym, take, ap, arith}
use Rattle.std.specs.Prelude.{filter_map}
use Rattle.std.specs.List.{cons_option}
use Rattle.std.proofs.lemmas.List.{append-nil, append_assoc, length-drop, nil_from_length}
use Rattle.desk_numbers.specs.declared.said.Said.{Said}
use Rattle.desk_numbers.specs.Strikes.Line.{before, length_before, past}
use Rattle.desk_numbers.specs.Strikes.SaidText.{said_as, with_byte, words_of}
use Rattle.desk_numbers.proofs.StrikesLemmas.LineLemmas.{lacks}

-- the words after the first
abbrev more_words : List ℕ → List (List ℕ)
more_words [] = []
more_words (byte ∷ line) = cond (nat_eq byte 32) (words_of line) (more_words line)

length_more : (byte b : ℕ) (line : List ℕ) → nat_eq b byte ≡ false → length_before byte (b ∷ line) ≡ suc (length_before byte line)
length_more byte b line other = ap (λ t. cond (not t) (1 + length_before byte line) 0) other ∙ omega arith

length_none : (byte b : ℕ) (line : List ℕ) → nat_eq b byte ≡ true → length_before byte (b ∷ line) ≡ 0
length_none byte b line is = ap (λ t. cond (not t) (1 + length_before byte line) 0) is

before_more : (byte b : ℕ) (line : List ℕ) → nat_eq b byte ≡ false → before byte (b ∷ line) ≡ b ∷ before byte line
before_more byte b line other = ap (λ n. take n (b ∷ line)) (length_more byte b line other)

before_none : (byte b : ℕ) (line : List ℕ) → nat_eq b byte ≡ true → before byte (b ∷ line) ≡ []
before_none byte b line is = ap (λ n. take n (b ∷ line)) (length_none byte b line is)

past_more : (byte b : ℕ) (line : List ℕ) → nat_eq b byte ≡ false → past byte (b ∷ line) ≡ past byte line
past_more byte b line other =
    let more : length_before byte (b ∷ line) + 1 ≡ suc (length_before byte line + 1) = omega (arith, length_more byte b line other) in
    ap (λ n. drop n (b ∷ line)) more

past_none : (byte b : ℕ) (line : List ℕ) → nat_eq b byte ≡ true → past byte (b ∷ line) ≡ line
past_none byte b line is =
    let one : length_before byte (b ∷ line) + 1 ≡ suc 0 = omega (arith, length_none byte b line is) in
    ap (λ n. drop n (b ∷ line)) one

-- the first word is what comes before the first blank
first_word : (line : List ℕ) → words_of line ≡ before 32 line ∷ more_words line
first_word [] = refl
first_word (b ∷ line) = by (nat_eq b 32) refl (first_word line)
  where
    by : (t : Bool) → nat_eq b 32 ≡ t → words_of line ≡ before 32 line ∷ more_words line → cond t ([] ∷ words_of line) (with_byte b (words_of line)) ≡ before 32 (b ∷ line) ∷ cond t (words_of line) (more_words line)
    by true is rest = ap (λ (w : List ℕ). w ∷ words_of line) (sym (before_none 32 b line is))
    by false is rest = ap (with_byte b) rest ∙ ap (λ (w : List ℕ). w ∷ more_words line) (sym (before_more 32 b line is))

-- the others are those of what comes after it; an empty one says nothing
later_words : (line : List ℕ) → filter_map said_as (more_words line) ≡ filter_map said_as (words_of (past 32 line))
unfolding said_as
later_words [] = refl
later_words (b ∷ line) = by (nat_eq b 32) refl (later_words line)
  where
    by : (t : Bool) → nat_eq b 32 ≡ t → filter_map said_as (more_words line) ≡ filter_map said_as (words_of (past 32 line)) → filter_map said_as (cond t (words_of line) (more_words line)) ≡ filter_map said_as (words_of (past 32 (b ∷ line)))
    by true is rest = ap (λ (l : List ℕ). filter_map said_as (words_of l)) (sym (past_none 32 b line is))
    by false is rest = rest ∙ ap (λ (l : List ℕ). filter_map said_as (words_of l)) (sym (past_more 32 b line is))

-- what a line says: its first word, and then what is left
words_cut : (line : List ℕ) → filter_map said_as (words_of line) ≡ cons_option (said_as (before 32 line)) (filter_map said_as (words_of (past 32 line)))
words_cut line = ap (filter_map said_as) (first_word line) ∙ ap (cons_option (said_as (before 32 line))) (later_words line)

-- an empty line says nothing
nothing_said : filter_map said_as (words_of []) ≡ []
unfolding said_as
nothing_said = refl

-- what is said so far, and then by what is left
said_further : (so_far : List Said) (one : Option Said) (rest : List Said) → (so_far ++ cons_option one []) ++ rest ≡ so_far ++ cons_option one rest
said_further so_far None rest = ap (λ l. l ++ rest) (append-nil so_far)
said_further so_far (Some said) rest = append_assoc so_far (said ∷ []) rest

-- one word more is read
pub line_on : (line word rest : List ℕ) (so_far after all : List Said) (one : Option Said) → word ≡ before 32 line → rest ≡ past 32 line → one ≡ said_as word → after ≡ so_far ++ cons_option one []
    → so_far ++ filter_map said_as (words_of line) ≡ all → after ++ filter_map said_as (words_of rest) ≡ all
line_on line word rest so_far after all one word_is rest_is one_is longer whole =
    ap (λ l. l ++ filter_map said_as (words_of rest)) longer
    ∙ said_further so_far one (filter_map said_as (words_of rest))
    ∙ ap (λ (r : List ℕ). so_far ++ cons_option one (filter_map said_as (words_of r))) rest_is
    ∙ ap (λ o. so_far ++ cons_option o (filter_map said_as (words_of (past 32 line)))) (one_is ∙ ap said_as word_is)
    ∙ ap (λ l. so_far ++ l) (sym (words_cut line))
    ∙ whole

-- and once nothing is left of the line, all is
pub line_past : (line : List ℕ) (so_far all : List Said) → length line ≡ 0 → so_far ++ filter_map said_as (words_of line) ≡ all → so_far ≡ all
line_past line so_far all empty whole = sym (ap (λ (l : List ℕ). so_far ++ filter_map said_as (words_of l)) (nil_from_length line empty) ∙ ap (λ l. so_far ++ l) nothing_said ∙ append-nil so_far) ∙ whole

-- what is left of a line is shorter
pub past_shorter : (byte : ℕ) (line : List ℕ) → 0 < length line → length (past byte line) < length line
past_shorter byte line some = omega (arith, length-drop (length_before byte line + 1) line)

-- a line with no blank is one word
pub one_word : (line : List ℕ) → lacks 32 line ≡ true → words_of line ≡ line ∷ []
one_word [] lacking = refl
one_word (b ∷ line) lacking = by (nat_eq b 32) lacking (one_word line)
  where
    by : (t : Bool) → (not t && lacks 32 line) ≡ true → (lacks 32 line ≡ true → words_of line ≡ line ∷ []) → cond t ([] ∷ words_of line) (with_byte b (words_of line)) ≡ (b ∷ line) ∷ []
    by true lacking rest = cc lacking
    by false lacking rest = ap (with_byte b) (rest lacking)

-- the words of two lines with a blank between them
pub words_joined : (front rest : List ℕ) → words_of (front ++ 32 ∷ rest) ≡ words_of front ++ words_of rest
words_joined [] rest = refl
words_joined (b ∷ front) rest = by (nat_eq b 32) (words_joined front rest)
  where
    with_first : (words : List (List ℕ)) → words ≡ before 32 front ∷ more_words front → with_byte b (words ++ words_of rest) ≡ with_byte b words ++ words_of rest
    with_first [] is = cc is
    with_first (word ∷ more) is = refl

    by : (t : Bool) → words_of (front ++ 32 ∷ rest) ≡ words_of front ++ words_of rest
        → cond t ([] ∷ words_of (front ++ 32 ∷ rest)) (with_byte b (words_of (front ++ 32 ∷ rest))) ≡ cond t ([] ∷ words_of front) (with_byte b (words_of front)) ++ words_of rest
    by true both = ap (λ (l : List (List ℕ)). [] ∷ l) both
    by false both = ap (with_byte b) both ∙ with_first (words_of front) (first_word front)

-- what two lists of words say
pub said_by_both : (front rest : List (List ℕ)) → filter_map said_as (front ++ rest) ≡ filter_map said_as front ++ filter_map said_as rest
said_by_both [] rest = refl
said_by_both (word ∷ front) rest = by (said_as word) (said_by_both front rest)
  where
    by : (one : Option Said) → filter_map said_as (front ++ rest) ≡ filter_map said_as front ++ filter_map said_as rest
        → cons_option one (filter_map said_as (front ++ rest)) ≡ cons_option one (filter_map said_as front) ++ filter_map said_as rest
    by None both = both
    by (Some said) both = ap (λ l. said ∷ l) both
