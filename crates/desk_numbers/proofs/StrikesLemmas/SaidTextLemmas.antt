-- What a first line says of rows is read as it is written.
use Rattle.std.proofs.Common.{◌≡◌, ◌∙◌, ◌+◌, ◌<◌, ◌≤◌, ◌&&◌, ℕ, Bool, true, false, not, List, [], ◌∷◌, ◌++◌, Option, Some, None, drop, get_or, length, nat_eq, option_and_then, refl, sym, ap, append_assoc, arith}
use Rattle.std.specs.Prelude.{All, filter_map}
use Rattle.std.proofs.lemmas.Bool.Decides.{nat_tests}
use Rattle.std.proofs.lemmas.List.{append-nil, at_drop_all, at_drop_more}
use Rattle.std.proofs.lemmas.List.Elements.{All-head, All-tail}
use Rattle.std.proofs.lemmas.Grind.{common_steps}
use Rattle.std.specs.Char.{is_ascii_digit}
use Rattle.std.specs.Fmt.{decimal}
use Rattle.std.specs.List.{cons_option, list_all}
use Rattle.row_forms.specs.Words.{number_of}
use Rattle.docket_rows.specs.declared.command.Counted.{Counted}
use Rattle.docket_rows.specs.declared.command.Counted.TheVariants.{Deadline, Motion}
use Rattle.desk_numbers.specs.declared.said.Said.{Said}
use Rattle.desk_numbers.specs.Strikes.Laws.{NumbersAreReadBack}
use Rattle.desk_numbers.specs.Strikes.Line.{before, past, row_named}
use Rattle.desk_numbers.specs.Strikes.SaidText.{Fits, counted_by, entry_with, letter_of, numbers_said, numeral_of, said_as, said_by, said_in, said_text, word_of, words_of}
use Rattle.desk_numbers.proofs.StrikesLemmas.LineLemmas.{before_cut, before_uncut, lacks, lacks-append, lacks_that, number_lacks, past_cut}
use Rattle.desk_numbers.proofs.StrikesLemmas.NumberLemmas.{all_digits, number_back, numeral_back}
use Rattle.desk_numbers.proofs.StrikesLemmas.WordsLemmas.{one_word, said_by_both, words_joined}

differ : (m n : ℕ) → n < m → not (nat_eq m n) ≡ true
differ m n less = grind (arith, nat_tests)

-- what stands after the letter
abbrev numbers_of : Said → List ℕ
numbers_of said = decimal said.row ++ 46 ∷ (decimal said.given.case ++ 46 ∷ decimal said.given.number)

in_parts : (said : Said) → word_of said ≡ letter_of said.given.counted ∷ numbers_of said
in_parts said =
    let row = decimal said.row in let case = decimal said.given.case in let number = decimal said.given.number in
    ap (λ (l : List ℕ). letter_of said.given.counted ∷ l) (append_assoc ((row ++ 46 ∷ []) ++ case) (46 ∷ []) number ∙ append_assoc (row ++ 46 ∷ []) case (46 ∷ number) ∙ append_assoc row (46 ∷ []) (case ++ 46 ∷ number))

-- the numbers are read
three_back : (said : Said) → Fits said → numbers_said (numbers_of said) said.given.counted ≡ Some said
three_back said fits =
    let row = decimal said.row in let case = decimal said.given.case in let number = decimal said.given.number in
    let rest = case ++ 46 ∷ number in
    let no_dot_in_row : lacks 46 row ≡ true = number_lacks 46 said.row (omega arith) fits.0 in
    let no_dot_in_case : lacks 46 case ≡ true = number_lacks 46 said.given.case (omega arith) fits.1 in
    let past_row : past 46 (row ++ 46 ∷ rest) ≡ rest = past_cut 46 row rest no_dot_in_row in
    let row_is : numeral_of (before 46 (row ++ 46 ∷ rest)) ≡ Some said.row = ap numeral_of (before_cut 46 row rest no_dot_in_row) ∙ numeral_back said.row fits.0 in
    let case_is : numeral_of (before 46 (past 46 (row ++ 46 ∷ rest))) ≡ Some said.given.case = ap (λ (l : List ℕ). numeral_of (before 46 l)) past_row ∙ ap numeral_of (before_cut 46 case number no_dot_in_case) ∙ numeral_back said.given.case fits.1 in
    let number_is : numeral_of (past 46 (past 46 (row ++ 46 ∷ rest))) ≡ Some said.given.number = ap (λ (l : List ℕ). numeral_of (past 46 l)) past_row ∙ ap numeral_of (past_cut 46 case number no_dot_in_case) ∙ numeral_back said.given.number fits.2 in
    by _ _ _ row_is case_is number_is
  where
    by : (row case number : Option ℕ) → row ≡ Some said.row → case ≡ Some said.given.case → number ≡ Some said.given.number → said_by said.given.counted row case number ≡ Some said
    by row case number r c n =
        ap (λ o. said_by said.given.counted o case number) r ∙ ap (λ o. said_by said.given.counted (Some said.row) o number) c ∙ ap (λ o. said_by said.given.counted (Some said.row) (Some said.given.case) o) n

counted_back : (counted : Counted) → counted_by (letter_of counted) ≡ Some counted
counted_back Deadline = refl
counted_back Motion = refl

-- and so is a word
word_back : (said : Said) → Fits said → said_as (word_of said) ≡ Some said
unfolding said_as
word_back said fits =
    ap said_as (in_parts said)
    ∙ ap (option_and_then (numbers_said (numbers_of said))) (counted_back said.given.counted)
    ∙ three_back said fits

-- a word has no blank and no end of a line
letter_lacks : (byte : ℕ) → byte < 48 → (counted : Counted) → lacks byte (letter_of counted ∷ []) ≡ true
letter_lacks byte low Deadline = rw (differ 100 byte (omega (arith, low))) refl
letter_lacks byte low Motion = rw (differ 109 byte (omega (arith, low))) refl

dot_lacks : (byte : ℕ) → byte < 46 → lacks byte (46 ∷ []) ≡ true
dot_lacks byte low = rw (differ 46 byte low) refl

word_lacks : (byte : ℕ) → byte < 46 → (said : Said) → Fits said → lacks byte (word_of said) ≡ true
word_lacks byte low said fits =
    let digits : byte < 48 = omega (arith, low) in
    let row = decimal said.row in let case = decimal said.given.case in let number = decimal said.given.number in
    let with_number = lacks-append byte (46 ∷ []) number (dot_lacks byte low) (number_lacks byte said.given.number digits fits.2) in
    let with_case = lacks-append byte (46 ∷ []) (case ++ 46 ∷ number) (dot_lacks byte low) (lacks-append byte case (46 ∷ number) (number_lacks byte said.given.case digits fits.1) with_number) in
    let with_row = lacks-append byte row (46 ∷ (case ++ 46 ∷ number)) (number_lacks byte said.row digits fits.0) with_case in
    ap (lacks byte) (in_parts said) ∙ lacks-append byte (letter_of said.given.counted ∷ []) (numbers_of said) (letter_lacks byte digits said.given.counted) with_row

-- all that is said has no end of a line
pub text_lacks : (said : List Said) → All Fits said → lacks 10 (said_text said) ≡ true
unfolding said_text
text_lacks [] fits = refl
text_lacks (one ∷ said) fits =
    lacks-append 10 (32 ∷ word_of one) (said_text said) (lacks-append 10 (32 ∷ []) (word_of one) refl (word_lacks 10 (omega arith) one (All-head Fits one said fits))) (text_lacks said (All-tail Fits one said fits))

-- a word says what it was written for
one_said : (said : Said) → Fits said → filter_map said_as (words_of (word_of said)) ≡ said ∷ []
one_said said fits = ap (filter_map said_as) (one_word (word_of said) (word_lacks 32 (omega arith) said fits)) ∙ ap (λ (o : Option Said). cons_option o []) (word_back said fits)

-- what a line says that begins so, and says this after it
pub line_says : (begins : List ℕ) (said : List Said) → All Fits said → filter_map said_as (words_of (begins ++ said_text said)) ≡ filter_map said_as (words_of begins) ++ said
unfolding said_text
line_says begins [] fits = ap (λ (l : List ℕ). filter_map said_as (words_of l)) (append-nil begins) ∙ sym (append-nil (filter_map said_as (words_of begins)))
line_says begins (one ∷ said) fits =
    let rest = word_of one ++ said_text said in
    ap (filter_map said_as) (words_joined begins rest)
    ∙ said_by_both (words_of begins) (words_of rest)
    ∙ ap (λ l. filter_map said_as (words_of begins) ++ l) (line_says (word_of one) said (All-tail Fits one said fits) ∙ ap (λ l. l ++ said) (one_said one (All-head Fits one said fits)))

-- the words so far, with one more
pub text_on : (said : List Said) (i : ℕ) (d : Said) (so_far after : List ℕ) → i < length said → after ≡ so_far ++ 32 ∷ word_of (get_or said i d) → after ++ said_text (drop (i + 1) said) ≡ so_far ++ said_text (drop i said)
unfolding said_text
text_on said i d so_far after within longer =
    ap (λ l. l ++ said_text (drop (i + 1) said)) longer
    ∙ append_assoc so_far (32 ∷ word_of (get_or said i d)) (said_text (drop (i + 1) said))
    ∙ ap (λ l. so_far ++ l) (sym (at_drop_more said_text said i d within))

-- after all of them nothing is left
pub text_past : (said : List Said) (i : ℕ) (so_far : List ℕ) → length said ≤ i → so_far ++ said_text (drop i said) ≡ so_far
unfolding said_text
text_past said i so_far past = ap (λ l. so_far ++ l) (at_drop_all said_text said i past) ∙ append-nil so_far

-- the entry, in the order in which it is read
pub entry_in_parts : (begins : List ℕ) (said : List Said) (rest : List ℕ) → entry_with begins said rest ≡ (begins ++ said_text said) ++ 10 ∷ rest
entry_in_parts begins said rest = append_assoc (begins ++ said_text said) (10 ∷ []) rest

-- what is said is read, where what comes before it has no end of a line and says nothing
pub said_read : (begins : List ℕ) (said : List Said) (rest : List ℕ) → lacks 10 begins ≡ true → filter_map said_as (words_of begins) ≡ [] → All Fits said → said_in (entry_with begins said rest) ≡ said
unfolding said_in
said_read begins said rest lacking none fits =
    ap (λ (l : List ℕ). filter_map said_as (words_of (before 10 l))) (entry_in_parts begins said rest)
    ∙ ap (λ (l : List ℕ). filter_map said_as (words_of l)) (before_cut 10 (begins ++ said_text said) rest (lacks-append 10 begins (said_text said) lacking (text_lacks said fits)))
    ∙ line_says begins said fits
    ∙ ap (λ l. l ++ said) none

-- the law
pub numbers_back : NumbersAreReadBack
unfolding said_in
numbers_back begins said rest one_line none fits =
    let lacking = lacks_that 10 begins one_line in
    said_read begins said rest lacking (sym (ap (λ (l : List ℕ). filter_map said_as (words_of l)) (before_uncut 10 begins lacking)) ∙ none) fits

-- a row's number says nothing of rows: it begins with no letter
digits_silent : (ds : List ℕ) → list_all is_ascii_digit ds ≡ true → said_as ds ≡ None
unfolding said_as
digits_silent [] h = refl
digits_silent (d ∷ ds) h = by (is_ascii_digit d) refl h
  where
    by : (t : Bool) → is_ascii_digit d ≡ t → (t && list_all is_ascii_digit ds) ≡ true → option_and_then (numbers_said ds) (counted_by d) ≡ None
    by true digit h =
        let no_deadline : nat_eq d 100 ≡ false = grind (arith, nat_tests, common_steps) in
        let no_motion : nat_eq d 109 ≡ false = grind (arith, nat_tests, common_steps) in
        rw (no_deadline, no_motion) refl
    by false digit h = cc h

pub row_silent : (row : ℕ) → row < 4_294_967_296 → filter_map said_as (words_of (decimal row)) ≡ []
row_silent row small =
    ap (filter_map said_as) (one_word (decimal row) (number_lacks 32 row (omega arith) small))
    ∙ ap (λ (o : Option Said). cons_option o []) (digits_silent (decimal row) (all_digits row small))

-- the row that a first line names
pub row_back : (row : ℕ) (said : List Said) → row < 1_000_000_000 → row_named (decimal row ++ said_text said) ≡ Some row
unfolding row_named said_text
row_back row [] small =
    ap (λ (l : List ℕ). number_of (before 32 l)) (append-nil (decimal row))
    ∙ ap (λ (l : List ℕ). number_of l) (before_uncut 32 (decimal row) (number_lacks 32 row (omega arith) (omega (arith, small)))) ∙ number_back row small
row_back row (one ∷ said) small =
    ap (λ (l : List ℕ). number_of l) (before_cut 32 (decimal row) (word_of one ++ said_text said) (number_lacks 32 row (omega arith) (omega (arith, small)))) ∙ number_back row small
