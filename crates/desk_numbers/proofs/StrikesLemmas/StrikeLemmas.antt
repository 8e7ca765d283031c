-- Strikes and restores are read as they are written, and no entry is both.
use Rattle.std.proofs.Common.{◌≡◌, ◌∙◌, ◌<◌, ◌&&◌, ℕ, Bool, true, false, cond, List, [], ◌∷◌, ◌++◌, Option, Some, None, codes, drop, length, nat_eq, option_and_then, option_map, refl, take, ap, append_assoc, arith}
use Rattle.std.proofs.lemmas.Bool.Decides.{nat_tests}
use Rattle.std.specs.Prelude.{All, filter_map}
use Rattle.std.specs.Cmp.Lexicographic.{pointwise}
use Rattle.std.specs.Fmt.{decimal}
use Rattle.std.specs.List.{starts_with}
use Rattle.desk_numbers.specs.declared.said.Said.{Said}
use Rattle.desk_numbers.specs.Strikes.Laws.{NoEntryIsBoth, RestoresAreReadBack, StrikesAreReadBack}
use Rattle.desk_numbers.specs.Strikes.Line.{after_mark, before, past, remark_in, row_after, row_named}
use Rattle.desk_numbers.specs.Strikes.Restore.{restore_entry, restore_from, restore_in, restore_mark}
use Rattle.desk_numbers.specs.Strikes.SaidText.{Fits, entry_with, said_as, said_in, said_text, words_of}
use Rattle.desk_numbers.specs.Strikes.Strike.{strike_entry, strike_from, strike_in, strike_mark}
use Rattle.desk_numbers.proofs.StrikesLemmas.LineLemmas.{before_cut, lacks, lacks-append, number_lacks, past_cut}
use Rattle.desk_numbers.proofs.StrikesLemmas.SaidTextLemmas.{entry_in_parts, row_back, row_silent, said_read, text_lacks}
use Rattle.desk_numbers.proofs.StrikesLemmas.WordsLemmas.{said_by_both, words_joined}

-- what comes before what is said is the mark and the row, which say nothing themselves
module _ (mark word : List ℕ) (mark_is : mark ≡ word ++ 32 ∷ []) (lacking : lacks 10 mark ≡ true) (silent : filter_map said_as (words_of word) ≡ []) (found : (rest : List ℕ) → after_mark mark (mark ++ rest) ≡ Some rest) where
  row_in_parts : (row : ℕ) (said : List Said) (remark : List ℕ) → entry_with (mark ++ decimal row) said remark ≡ mark ++ ((decimal row ++ said_text said) ++ 10 ∷ remark)
  row_in_parts row said remark =
      entry_in_parts (mark ++ decimal row) said remark
      ∙ ap (λ (l : List ℕ). l ++ 10 ∷ remark) (append_assoc mark (decimal row) (said_text said))
      ∙ append_assoc mark (decimal row ++ said_text said) (10 ∷ remark)

  pub named_back : (row : ℕ) (said : List Said) (remark : List ℕ) → row < 1_000_000_000 → All Fits said → row_after mark (entry_with (mark ++ decimal row) said remark) ≡ Some row
  unfolding row_after
  named_back row said remark small fits =
      let digits = number_lacks 10 row (omega arith) (omega (arith, small)) in
      ap (λ (e : List ℕ). option_and_then (λ rest. row_named (before 10 rest)) (after_mark mark e)) (row_in_parts row said remark)
      ∙ ap (λ (o : Option (List ℕ)). option_and_then (λ rest. row_named (before 10 rest)) o) (found ((decimal row ++ said_text said) ++ 10 ∷ remark))
      ∙ ap row_named (before_cut 10 (decimal row ++ said_text said) remark (lacks-append 10 (decimal row) (said_text said) digits (text_lacks said fits)))
      ∙ row_back row said small

  pub remark_back : (row : ℕ) (said : List Said) (remark : List ℕ) → row < 1_000_000_000 → All Fits said → remark_in (entry_with (mark ++ decimal row) said remark) ≡ remark
  unfolding remark_in
  remark_back row said remark small fits =
      let begins = lacks-append 10 mark (decimal row) lacking (number_lacks 10 row (omega arith) (omega (arith, small))) in
      ap (past 10) (entry_in_parts (mark ++ decimal row) said remark)
      ∙ past_cut 10 ((mark ++ decimal row) ++ said_text said) remark (lacks-append 10 (mark ++ decimal row) (said_text said) begins (text_lacks said fits))

  pub said_back : (row : ℕ) (said : List Said) (remark : List ℕ) → row < 1_000_000_000 → All Fits said → said_in (entry_with (mark ++ decimal row) said remark) ≡ said
  said_back row said remark small fits =
      let within : row < 4_294_967_296 = omega (arith, small) in
      let silent_all : filter_map said_as (words_of (mark ++ decimal row)) ≡ [] =
      ap (λ (m : List ℕ). filter_map said_as (words_of (m ++ decimal row))) mark_is
      ∙ ap (λ (l : List ℕ). filter_map said_as (words_of l)) (append_assoc word (32 ∷ []) (decimal row))
      ∙ ap (filter_map said_as) (words_joined word (decimal row))
      ∙ said_by_both (words_of word) (words_of (decimal row))
      ∙ ap (λ l. l ++ filter_map said_as (words_of (decimal row))) silent
      ∙ row_silent row within in
      said_read (mark ++ decimal row) said remark (lacks-append 10 mark (decimal row) lacking (number_lacks 10 row (omega arith) within)) silent_all fits

-- the laws
strike_silent : filter_map said_as (words_of (codes "%%strike")) ≡ []
unfolding said_as
strike_silent = refl

restore_silent : filter_map said_as (words_of (codes "%%restore")) ≡ []
unfolding said_as
restore_silent = refl

pub strikes_back : StrikesAreReadBack
unfolding strike_in strike_entry
strikes_back strike said remark small fits = (
  ap (option_map strike_from) (named_back strike_mark (codes "%%strike") refl refl strike_silent (λ rest. refl) strike.row said remark small fits),
  remark_back strike_mark (codes "%%strike") refl refl strike_silent (λ rest. refl) strike.row said remark small fits,
  said_back strike_mark (codes "%%strike") refl refl strike_silent (λ rest. refl) strike.row said remark small fits,
)

pub restores_back : RestoresAreReadBack
unfolding restore_in restore_entry
restores_back restore said remark small fits = (
  ap (option_map restore_from) (named_back restore_mark (codes "%%restore") refl refl restore_silent (λ rest. refl) restore.row said remark small fits),
  remark_back restore_mark (codes "%%restore") refl refl restore_silent (λ rest. refl) restore.row said remark small fits,
  said_back restore_mark (codes "%%restore") refl refl restore_silent (λ rest. refl) restore.row said remark small fits,
)

-- a text begins with one of both marks at most: they differ in their third byte
third : (c : ℕ) → nat_eq 115 c ≡ true → nat_eq 114 c ≡ false
third c is = grind (arith, nat_tests)

begins_once : (text : List ℕ) → starts_with nat_eq text strike_mark ≡ true → starts_with nat_eq text restore_mark ≡ false
begins_once [] h = refl
begins_once (a ∷ []) h = alone (nat_eq 37 a)
  where
    alone : (p : Bool) → (p && false) ≡ false
    alone true = refl
    alone false = refl
begins_once (a ∷ b ∷ []) h = both (nat_eq 37 a) (nat_eq 37 b)
  where
    both : (p q : Bool) → (p && (q && false)) ≡ false
    both true true = refl
    both true false = refl
    both false q = refl
begins_once (a ∷ b ∷ c ∷ text) h = by (nat_eq 37 a) (nat_eq 37 b) (nat_eq 115 c) refl h
  where
    strike_on : Bool
    strike_on = pointwise nat_eq (codes "trike ") (take 6 text)

    restore_on : Bool
    restore_on = pointwise nat_eq (codes "estore ") (take 7 text)

    by : (p q r : Bool) → nat_eq 115 c ≡ r → (p && (q && (r && strike_on))) ≡ true → (p && (q && (nat_eq 114 c && restore_on))) ≡ false
    by true true true is h = rw (third c is) refl
    by true true false is h = cc h
    by true false r is h = refl
    by false q r is h = refl

none_named : (entry : List ℕ) → starts_with nat_eq entry restore_mark ≡ false → restore_in entry ≡ None
unfolding restore_in row_after
none_named entry other = rw other refl

pub not_both : NoEntryIsBoth
unfolding strike_in row_after
not_both entry strike is = by (starts_with nat_eq entry strike_mark) refl is
  where
    by : (b : Bool) → starts_with nat_eq entry strike_mark ≡ b → option_map strike_from (option_and_then (λ rest. row_named (before 10 rest)) (cond b (Some (drop (length strike_mark) entry)) None)) ≡ Some strike → restore_in entry ≡ None
    by true begins said = none_named entry (begins_once entry begins)
    by false other said = cc said
