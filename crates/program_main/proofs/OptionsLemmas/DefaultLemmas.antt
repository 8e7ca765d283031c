-- What the matches hold under a name that the words leave out.
use Rattle.std.proofs.Common.{◌≡◌, ◌∙◌, ◌||◌, ◌++◌, Bool, List, [], ◌∷◌, Option, Some, None, ap, codes, cond, false, true, option_map, refl, true≢false, ℕ}
use Rattle.std.specs.List.{find, fold, list_any, slice_index_or}
use Rattle.std.specs.Prelude.{option_and_then}
use Rattle.std.specs.Str.{bytes_eq}
use Rattle.clap.specs.Simple.{built, help_rule}
use Rattle.clap.specs.Walk.{Row, Rule, Text, at_row, default_rows, has_row, more_values, one_of, reading_by, row_text, with_default}
use Rattle.clap.specs.declared.parser.matches.ValueSource.TheVariants.{DefaultValue}
use Rattle.program_main.specs.Options.CommandLine.{command_line}
use Rattle.program_main.specs.Options.Held.{number_held, number_written, rows_by_words}

abbrev named : Text → Row → Bool
named name row = bytes_eq row.id name

-- what is found in a list with one more element at its end

find_past : {X : Type 0} (p : X → Bool) (xs : List X) (y : X) → p y ≡ false → find p (xs ++ y ∷ []) ≡ find p xs
find_past p [] y miss = rw miss refl
find_past p (x ∷ xs) y miss = ap (cond (p x) (Some x)) (find_past p xs y miss)

find_last : {X : Type 0} (p : X → Bool) (xs : List X) (y : X) → list_any p xs ≡ false → p y ≡ true → find p (xs ++ y ∷ []) ≡ Some y
find_last p [] y none hit = rw hit refl
find_last p (x ∷ xs) y none hit = go (p x) none (find_last p xs y)
  where
    go : (b : Bool) → (b || list_any p xs) ≡ false → (list_any p xs ≡ false → p y ≡ true → find p (xs ++ y ∷ []) ≡ Some y) → cond b (Some x) (find p (xs ++ y ∷ [])) ≡ Some y
    go true none rest = absurd (true≢false none)
    go false none rest = rest none hit

any_past : {X : Type 0} (p : X → Bool) (xs : List X) (y : X) → p y ≡ false → list_any p (xs ++ y ∷ []) ≡ list_any p xs
any_past p [] y miss = rw miss refl
any_past p (x ∷ xs) y miss = ap (λ b. p x || b) (any_past p xs y miss)

-- a row that isn't there joins at the end
row_joins : (name : Text) (change : Row → List Row) (missing rows : List Row) → has_row name rows ≡ false → at_row name change missing rows ≡ rows ++ missing
row_joins name change missing [] none = refl
row_joins name change missing (row ∷ rows) none = go (named name row) none (row_joins name change missing rows)
  where
    go : (b : Bool) → (b || has_row name rows) ≡ false → (has_row name rows ≡ false → at_row name change missing rows ≡ rows ++ missing)
        → cond b (change row ++ rows) (row ∷ at_row name change missing rows) ≡ row ∷ (rows ++ missing)
    go true none rest = absurd (true≢false none)
    go false none rest = ap (λ rs. row ∷ rs) (rest none)

abbrev default_row : Rule → Text → List Text → Row
default_row rule value values = record { id = rule.id; values = value ∷ values; count = None; source = Some DefaultValue; reading = reading_by rule }

-- an argument that has no row gets one for its default
default_joins : (rule : Rule) (value : Text) (values : List Text) (rows : List Row) → rule.defaults ≡ value ∷ values → has_row rule.id rows ≡ false
    → with_default rows rule ≡ rows ++ default_row rule value values ∷ []
default_joins rule value values rows defaults none =
    ap (λ b. cond b rows (default_rows rule.id (reading_by rule) rule.defaults rows)) none
    ∙ ap (λ vs. default_rows rule.id (reading_by rule) vs rows) defaults
    ∙ row_joins rule.id (more_values DefaultValue (value ∷ values)) (default_row rule value values ∷ []) rows none

-- what a default leaves of a row under another name
module _ (name : Text) (rule : Rule) (rows : List Row) (other : bytes_eq rule.id name ≡ false) where
  pub row_stays : find (named name) (with_default rows rule) ≡ find (named name) rows
  row_stays = go (has_row rule.id rows) rule.defaults refl refl
    where
      go : (b : Bool) (vs : List Text) → has_row rule.id rows ≡ b → rule.defaults ≡ vs → find (named name) (with_default rows rule) ≡ find (named name) rows
      go true vs has defaults = rw has refl
      go false [] has defaults = rw (has, defaults) refl
      go false (v ∷ vs) has defaults =
          ap (find (named name)) (default_joins rule v vs rows defaults has) ∙ find_past (named name) rows (default_row rule v vs) other

  pub absence_stays : has_row name (with_default rows rule) ≡ has_row name rows
  absence_stays = go (has_row rule.id rows) rule.defaults refl refl
    where
      go : (b : Bool) (vs : List Text) → has_row rule.id rows ≡ b → rule.defaults ≡ vs → has_row name (with_default rows rule) ≡ has_row name rows
      go true vs has defaults = rw has refl
      go false [] has defaults = rw (has, defaults) refl
      go false (v ∷ vs) has defaults =
          ap (has_row name) (default_joins rule v vs rows defaults has) ∙ any_past (named name) rows (default_row rule v vs) other

abbrev number_in : Option Row → Option ℕ
number_in found = option_map number_written (option_and_then row_text found)

-- four arguments, of which the first two have defaults
module _ (a b c d : Rule) (v w : Text) (rows : List Row) where
  abbrev all_defaults : List Row
  all_defaults = with_default (with_default (with_default (with_default rows a) b) c) d

  pub first_default : a.defaults ≡ v ∷ [] → bytes_eq a.id a.id ≡ true → bytes_eq b.id a.id ≡ false → bytes_eq c.id a.id ≡ false → bytes_eq d.id a.id ≡ false
      → has_row a.id rows ≡ false → find (named a.id) all_defaults ≡ Some (default_row a v [])
  first_default defaults same b_other c_other d_other none =
      row_stays a.id d _ d_other ∙ row_stays a.id c _ c_other ∙ row_stays a.id b _ b_other
      ∙ ap (find (named a.id)) (default_joins a v [] rows defaults none) ∙ find_last (named a.id) rows (default_row a v []) none same

  pub second_default : b.defaults ≡ w ∷ [] → bytes_eq b.id b.id ≡ true → bytes_eq a.id b.id ≡ false → bytes_eq c.id b.id ≡ false → bytes_eq d.id b.id ≡ false
      → has_row b.id rows ≡ false → find (named b.id) all_defaults ≡ Some (default_row b w [])
  second_default defaults same a_other c_other d_other none =
      let still = absence_stays b.id a rows a_other ∙ none in
      row_stays b.id d _ d_other ∙ row_stays b.id c _ c_other
      ∙ ap (find (named b.id)) (default_joins b w [] (with_default rows a) defaults still)
      ∙ find_last (named b.id) (with_default rows a) (default_row b w []) still same

-- the arguments of the command line, as `clap` fills them in
abbrev rules : List Rule
rules = (built command_line).top.rules

abbrev rule_at : ℕ → Rule
rule_at k = slice_index_or rules k help_rule

clerks_left_out : (rows : List Row) → has_row (codes "clerks") rows ≡ false → option_map number_written (one_of (codes "clerks") (fold with_default rows rules)) ≡ Some 1
clerks_left_out rows none = ap number_in (first_default (rule_at 0) (rule_at 1) (rule_at 2) (rule_at 3) (codes "1") (codes "100000") rows refl refl refl refl refl none)

journal_left_out : (rows : List Row) → has_row (codes "journal") rows ≡ false → option_map number_written (one_of (codes "journal") (fold with_default rows rules)) ≡ Some 100000
journal_left_out rows none = ap number_in (second_default (rule_at 0) (rule_at 1) (rule_at 2) (rule_at 3) (codes "1") (codes "100000") rows refl refl refl refl refl none)

-- words that don't name the clerks hold 1
pub clerks_default : (words : List Text) → has_row (codes "clerks") (rows_by_words words) ≡ false → number_held (codes "clerks") words ≡ Some 1
clerks_default words none = clerks_left_out (rows_by_words words) none

-- words that don't name the journal hold 100,000
pub journal_default : (words : List Text) → has_row (codes "journal") (rows_by_words words) ≡ false → number_held (codes "journal") words ≡ Some 100000
journal_default words none = journal_left_out (rows_by_words words) none
