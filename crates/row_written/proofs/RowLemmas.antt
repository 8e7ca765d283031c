-- Fields and columns, one by one.
use Rattle.std.proofs.Common.{◌≡◌, ◌∙◌, ◌+◌, ◌<◌, ◌≤◌, ◌==◌, ℕ, zero, suc, Bool, true, false, not, List, [], ◌∷◌, ◌++◌, length, drop, map, refl, sym, ap, add-one, append_assoc, append-nil, arith}
use Rattle.std.specs.Prelude.{Option, filter, slice_get, unwrap_or}
use Rattle.std.proofs.lemmas.Bool.{ne_eqb}
use Rattle.std.specs.List.{list_any}
use Rattle.std.specs.Str.{bytes_eq}
use Rattle.std.proofs.lemmas.List.{drop_all, drop_more}
use Rattle.std.proofs.lemmas.Option.{unwrap_or-slice_get}
use Rattle.csv.specs.Records.{field_at}
use Rattle.court_file_text.specs.Words.{NamedTextView}
use Rattle.row_fields.specs.declared.said.Said.{Said}
use Rattle.row_fields.specs.declared.said.Said.TheVariants.{Unknown, Clear, Unclear}
use Rattle.row_forms.specs.Words.{CourtNames}
use Rattle.row_written.specs.Fault.{FieldFault}
use Rattle.row_fields.specs.declared.dates.DateOrder.{DateOrder}
use Rattle.row_forms.specs.declared.headings.columns.Column.{Column}
use Rattle.row_written.specs.Headings.{heading_fault, heading_faults, heading_of, index_of, is_filled, word_at}
use Rattle.row_written.specs.Names.{chosen, name_said, names_after, when_meant, with_choice, with_name}
use Rattle.row_written.specs.Rows.{clear_text, column_faults, column_place, excess_fault, excess_faults, plain_in, said_in, unclear, value_at}

-- what was found, and this, and what comes after it
pub found_more : {A : Type 0} (found this then now after all : List A) → found ++ now ≡ all → now ≡ this ++ after → then ≡ found ++ this → then ++ after ≡ all
found_more found this then now after all whole is more =
    ap (λ l. l ++ after) more ∙ append_assoc found this after ∙ ap (λ l. found ++ l) (sym is) ∙ whole

-- and nothing more
pub found_all : {A : Type 0} (found now all : List A) → found ++ now ≡ all → now ≡ [] → found ≡ all
found_all found now all whole none = sym (ap (λ l. found ++ l) none ∙ append-nil found) ∙ whole

-- the field at a place, and those after it
word_there : (fields : List (List ℕ)) (i : ℕ) → i < length fields → drop i fields ≡ word_at fields i ∷ drop (suc i) fields
unfolding field_at
word_there [] i there = absurd (omega arith)
word_there (x ∷ fields) zero there = refl
word_there (x ∷ fields) (suc i) there = word_there fields i (omega arith)

pub next_word : (fields : List (List ℕ)) (i : ℕ) → i < length fields → drop i fields ≡ word_at fields i ∷ drop (i + 1) fields
next_word fields i there = rw add-one (word_there fields i there)

pub next_name : (names : List (List ℕ)) (i : ℕ) → i < length names → drop i names ≡ unwrap_or (slice_get names i) [] ∷ drop (i + 1) names
next_name names i there = rw (unwrap_or-slice_get names i []) (drop_more names i [] there)

-- one name more of those that are searched
module _ (names : List (List ℕ)) (name : List ℕ) (i : ℕ) (whole : i + index_of name (drop i names) ≡ index_of name names) where
  pub index_there : i < length names → bytes_eq (word_at names i) name ≡ true → i ≡ index_of name names
  unfolding index_of
  index_there there is =
      let one : i + index_of name (drop i names) ≡ i + 0 = ap (λ rest. i + index_of name rest) (next_word names i there) ∙ rw is refl in
      omega (arith, one, whole)

  pub index_later : i < length names → bytes_eq (word_at names i) name ≡ false → (i + 1) + index_of name (drop (i + 1) names) ≡ index_of name names
  unfolding index_of
  index_later there is =
      let one : i + index_of name (drop i names) ≡ i + (index_of name (drop (i + 1) names) + 1) = ap (λ rest. i + index_of name rest) (next_word names i there) ∙ rw is refl in
      omega (arith, one, whole)

  pub index_past : length names ≤ i → i ≤ length names → length names ≡ index_of name names
  unfolding index_of
  index_past past within =
      let one : i + index_of name (drop i names) ≡ i + 0 = ap (λ rest. i + index_of name rest) (drop_all i names past) in
      omega (arith, one, whole, past, within)

-- one name more of those that may be meant
chosen_more : (said : Said (List ℕ)) (name : List ℕ) (names : List (List ℕ)) → chosen said (name ∷ names) ≡ chosen (with_choice said name) names
chosen_more Unknown name [] = refl
chosen_more Unknown name (other ∷ names) = refl
chosen_more (Clear first) name names = refl
chosen_more (Unclear first second) name names = refl

chosen_none : (said : Said (List ℕ)) → chosen said [] ≡ said
chosen_none Unknown = refl
chosen_none (Clear first) = refl
chosen_none (Unclear first second) = refl

module _ (fits : List ℕ → Bool) (names : List (List ℕ)) (i : ℕ) (said all : Said (List ℕ)) (whole : chosen said (filter fits (drop i names)) ≡ all) where
  pub choice_taken : i < length names → fits (unwrap_or (slice_get names i) []) ≡ true → chosen (with_choice said (unwrap_or (slice_get names i) [])) (filter fits (drop (i + 1) names)) ≡ all
  choice_taken there is =
      let name = unwrap_or (slice_get names i) [] in
      sym (chosen_more said name (filter fits (drop (i + 1) names))) ∙ sym (ap (λ rest. chosen said (filter fits rest)) (next_name names i there) ∙ rw is refl) ∙ whole

  pub choice_passed : i < length names → fits (unwrap_or (slice_get names i) []) ≡ false → chosen said (filter fits (drop (i + 1) names)) ≡ all
  choice_passed there is = sym (ap (λ rest. chosen said (filter fits rest)) (next_name names i there) ∙ rw is refl) ∙ whole

  pub choice_past : length names ≤ i → said ≡ all
  choice_past past = sym (ap (λ rest. chosen said (filter fits rest)) (drop_all i names past) ∙ chosen_none said) ∙ whole

-- whether a field after these is filled
module _ (fields : List (List ℕ)) (i : ℕ) (all : Bool) (whole : list_any is_filled (drop i fields) ≡ all) where
  pub filled_there : i < length fields → is_filled (word_at fields i) ≡ true → true ≡ all
  filled_there there is = sym (ap (list_any is_filled) (next_word fields i there) ∙ rw is refl) ∙ whole

  pub filled_later : i < length fields → is_filled (word_at fields i) ≡ false → list_any is_filled (drop (i + 1) fields) ≡ all
  filled_later there is = sym (ap (list_any is_filled) (next_word fields i there) ∙ rw is refl) ∙ whole

  pub filled_past : length fields ≤ i → false ≡ all
  filled_past past = sym (ap (list_any is_filled) (drop_all i fields past)) ∙ whole

-- the headings of fields
pub headings_next : (fields : List (List ℕ)) (i : ℕ) → i < length fields → map heading_of (drop i fields) ≡ (heading_of (word_at fields i) ∷ []) ++ map heading_of (drop (i + 1) fields)
headings_next fields i there = ap (map heading_of) (next_word fields i there)

pub heading_faults_next : (text : List ℕ) (fields before : List (List ℕ)) (i : ℕ) → i < length fields
    → heading_faults text i before (drop i fields) ≡ heading_fault text i before (word_at fields i) ++ heading_faults text (i + 1) (before ++ heading_of (word_at fields i) ∷ []) (drop (i + 1) fields)
unfolding heading_faults
heading_faults_next text fields before i there = ap (heading_faults text i before) (next_word fields i there)

pub heading_faults_past : (text : List ℕ) (fields before : List (List ℕ)) (i : ℕ) → length fields ≤ i → heading_faults text i before (drop i fields) ≡ []
unfolding heading_faults
heading_faults_past text fields before i past = ap (heading_faults text i before) (drop_all i fields past)

-- the fields for which a row has no column
module _ (header : Option (List (List ℕ))) (columns : List Column) (text : List ℕ) (fields : List (List ℕ)) (i : ℕ) where
  pub excess_next : i < length fields → excess_faults header columns text i (drop i fields) ≡ excess_fault header columns text i (word_at fields i) ++ excess_faults header columns text (i + 1) (drop (i + 1) fields)
  unfolding excess_faults
  excess_next there = ap (excess_faults header columns text i) (next_word fields i there)

  pub excess_past : length fields ≤ i → excess_faults header columns text i (drop i fields) ≡ []
  unfolding excess_faults
  excess_past past = ap (excess_faults header columns text i) (drop_all i fields past)

-- the columns of a row
module _ (names : CourtNames) (order : Option DateOrder) (header : Option (List (List ℕ))) (text : List ℕ) (fields : List (List ℕ)) (columns : List Column) (i : ℕ) (column : Column) where
  pub plain_next : drop i columns ≡ column ∷ drop (i + 1) columns
      → plain_in names order header text fields i (drop i columns) ≡ (clear_text (said_in names order header fields i column) ∷ []) ++ plain_in names order header text fields (i + 1) (drop (i + 1) columns)
  unfolding plain_in
  plain_next is = ap (plain_in names order header text fields i) is

  pub faults_next : drop i columns ≡ column ∷ drop (i + 1) columns
      → column_faults names order header text fields i (drop i columns) ≡ unclear text (column_place header i column) column (value_at header fields i column) (said_in names order header fields i column) ++ column_faults names order header text fields (i + 1) (drop (i + 1) columns)
  unfolding column_faults
  faults_next is = ap (column_faults names order header text fields i) is

module _ (names : CourtNames) (order : Option DateOrder) (header : Option (List (List ℕ))) (text : List ℕ) (fields : List (List ℕ)) (columns : List Column) (i : ℕ) (past : length columns ≤ i) where
  pub plain_past : plain_in names order header text fields i (drop i columns) ≡ []
  unfolding plain_in
  plain_past = ap (plain_in names order header text fields i) (drop_all i columns past)

  pub faults_past : column_faults names order header text fields i (drop i columns) ≡ []
  unfolding column_faults
  faults_past = ap (column_faults names order header text fields i) (drop_all i columns past)

-- the faults of a field, said otherwise
pub faults_said : (old new : List FieldFault) (text : List ℕ) (column : Column) (p q : ℕ) (v w : List ℕ) (s t : Said (List ℕ)) → new ≡ old ++ unclear text p column v s → p ≡ q → v ≡ w → s ≡ t → new ≡ old ++ unclear text q column w t
faults_said old new text column p q v w s t is place value said = rw (← place, ← value, ← said) is

-- the names of a panel
module _ (shorts : List NamedTextView) (judges pieces : List (List ℕ)) (names : List ℕ) (i : ℕ) (all : Said (List ℕ)) (whole : names_after shorts judges names (drop i pieces) ≡ all) (there : i < length pieces) where
  one_piece : when_meant (name_said shorts judges (word_at pieces i)) (λ name. names_after shorts judges (with_name names name) (drop (i + 1) pieces)) ≡ all
  unfolding names_after
  one_piece = sym (ap (names_after shorts judges names) (next_word pieces i there)) ∙ whole

  pub piece_clear : (name : List ℕ) → Clear name ≡ name_said shorts judges (word_at pieces i) → names_after shorts judges (with_name names name) (drop (i + 1) pieces) ≡ all
  piece_clear name is = ap (λ (s : Said (List ℕ)). when_meant s (λ n. names_after shorts judges (with_name names n) (drop (i + 1) pieces))) is ∙ one_piece

  pub piece_unknown : Unknown ≡ name_said shorts judges (word_at pieces i) → Unknown ≡ all
  piece_unknown is = ap (λ (s : Said (List ℕ)). when_meant s (λ n. names_after shorts judges (with_name names n) (drop (i + 1) pieces))) is ∙ one_piece

  pub piece_unclear : (one other : List ℕ) → Unclear one other ≡ name_said shorts judges (word_at pieces i) → Unclear one other ≡ all
  piece_unclear one other is = ap (λ (s : Said (List ℕ)). when_meant s (λ n. names_after shorts judges (with_name names n) (drop (i + 1) pieces))) is ∙ one_piece

pub pieces_past : (shorts : List NamedTextView) (judges pieces : List (List ℕ)) (names : List ℕ) (i : ℕ) (all : Said (List ℕ)) → names_after shorts judges names (drop i pieces) ≡ all → length pieces ≤ i → Clear names ≡ all
unfolding names_after
pieces_past shorts judges pieces names i all whole past = sym (ap (names_after shorts judges names) (drop_all i pieces past)) ∙ whole

-- a text is filled where it isn't empty
pub filled_test : (text : List ℕ) → is_filled text ≡ not (length text == 0)
filled_test [] = refl
filled_test (b ∷ text) = sym (ap not (ne_eqb (suc (length text)) 0 (λ z. cc z)))
