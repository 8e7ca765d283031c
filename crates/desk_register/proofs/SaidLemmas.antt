-- The numbers that rows keep, after one entry more.
use Rattle.std.proofs.Common.{◌≡◌, ◌∙◌, ◌+◌, ◌-◌, ◌<◌, ◌≤◌, ℕ, List, [], ◌∷◌, ◌++◌, Option, Some, None, drop, length, length-append, length-set, refl, sym, ap, arith, zero-add}
use Rattle.std.specs.Prelude.{replicate}
use Rattle.std.proofs.lemmas.List.{length-replicate}
use Rattle.desk_numbers.specs.declared.given.Given.{Given}
use Rattle.desk_numbers.specs.declared.said.Said.{Said}
use Rattle.desk_numbers.specs.Words.{extended, kept_of, kept_with, unsaid, with_all, with_said}
use Rattle.desk_numbers.specs.Strikes.Words.{said_in}
use Rattle.desk_numbers.proofs.CallerLemmas.{said_is_kept}
use Rattle.desk_register.specs.declared.standing.Standing.{Standing}
use Rattle.desk_register.specs.Entries.{Note, kept_after, kept_as, kept_in, note_in, row_entries, row_only, rows_among, rows_with}
use Rattle.desk_register.specs.History.{SaysNumbers}
use Rattle.desk_register.specs.Run.{run_by}
use Rattle.desk_register.proofs.GivenLemmas.{as_many_gave, kept_were_given}
use Rattle.desk_register.proofs.ListLemmas.{drop_first}

-- how many rows there are after entries
one_counted : (note : Option Note) (entry : List ℕ) (rows : ℕ) → rows_with note rows ≡ rows + length (row_only note entry)
one_counted None entry rows = refl
one_counted (Some note) entry rows = omega arith

kept_after-append : (rows : ℕ) (numbers : List (Option Given)) (some : List (List ℕ)) (entry : List ℕ) → kept_after rows numbers (some ++ entry ∷ []) ≡ kept_as (note_in entry) (rows + length (rows_among some)) (kept_after rows numbers some) entry
unfolding kept_after rows_among
kept_after-append rows numbers [] entry = ap (λ (n : ℕ). kept_as (note_in entry) n numbers entry) (none_more rows)
  where
    none_more : (n : ℕ) → n ≡ n + 0
    none_more n = omega arith
kept_after-append rows numbers (other ∷ some) entry =
    kept_after-append (rows_with (note_in other) rows) (kept_as (note_in other) rows numbers other) some entry
    ∙ ap (λ (n : ℕ). kept_as (note_in entry) n (kept_after (rows_with (note_in other) rows) (kept_as (note_in other) rows numbers other) some) entry) count
  where
    count : rows_with (note_in other) rows + length (rows_among some) ≡ rows + length (row_only (note_in other) other ++ rows_among some)
    count = omega (arith, one_counted (note_in other) other rows, length-append (row_only (note_in other) other) (rows_among some))

-- after one entry more
pub kept_in-more : (kept : List (List ℕ)) (entry : List ℕ) → 0 < length kept → kept_in (kept ++ entry ∷ []) ≡ kept_as (note_in entry) (length (row_entries kept)) (kept_in kept) entry
kept_in-more kept entry begun = ap (kept_after 0 []) (drop_first kept entry begun) ∙ kept_after-append 0 [] (drop 1 kept) entry ∙ ap (λ (n : ℕ). kept_as (note_in entry) n (kept_in kept) entry) (zero-add (length (row_entries kept)))

-- after a court's file alone no row keeps one
pub none_kept : (first : List ℕ) → kept_in (first ∷ []) ≡ []
unfolding kept_after
none_kept first = refl

-- what is said lengthens no list
length_with_all : (kept : List (Option Given)) (said : List Said) → length (with_all kept said) ≡ length kept
unfolding with_all
length_with_all kept [] = refl
length_with_all kept (s ∷ said) = length_with_all (with_said kept s) said ∙ length-set kept (s.row - 1) (Some s.given)

length_kept_with : (kept : List (Option Given)) (rows : ℕ) (said : List Said) → length kept ≤ rows → length (kept_with kept rows said) ≡ rows
unfolding kept_with
length_kept_with kept rows said few =
    let nothing : Option Given = None in
    length_with_all (extended kept rows) said ∙ omega (arith, few, length-append kept (replicate (rows - length kept) nothing), length-replicate (rows - length kept) nothing)

-- no more rows keep a number than there are
kept_as_few : (note : Option Note) (rows : ℕ) (numbers : List (Option Given)) (entry : List ℕ) → length numbers ≤ rows → length (kept_as note rows numbers entry) ≤ rows_with note rows
kept_as_few None rows numbers entry few = omega (arith, few)
kept_as_few (Some note) rows numbers entry few = omega (arith, length_kept_with numbers rows (said_in entry) few)

kept_after_few : (rows : ℕ) (numbers : List (Option Given)) (later : List (List ℕ)) → length numbers ≤ rows → length (kept_after rows numbers later) ≤ rows + length (rows_among later)
unfolding kept_after rows_among
kept_after_few rows numbers [] few = omega (arith, few)
kept_after_few rows numbers (entry ∷ later) few =
    omega (arith, kept_after_few (rows_with (note_in entry) rows) (kept_as (note_in entry) rows numbers entry) later (kept_as_few (note_in entry) rows numbers entry few), one_counted (note_in entry) entry rows, length-append (row_only (note_in entry) entry) (rows_among later))

pub kept_in_few : (kept : List (List ℕ)) → length (kept_in kept) ≤ length (row_entries kept)
kept_in_few kept = omega (arith, kept_after_few 0 [] (drop 1 kept) (omega arith))

-- Rows keep what they gave, after an entry that says it.
pub says_given : (under : Standing) (kept : List (List ℕ)) (entry : List ℕ) → under.corrections.kept ≡ kept_in kept → SaysNumbers under kept entry → kept_with (kept_in kept) (length (row_entries kept)) (said_in entry) ≡ (run_by under kept).numbers.given
says_given under kept entry same says =
    let given = (run_by under kept).numbers.given in
    let count : length given ≡ length (row_entries kept) = as_many_gave under kept in
    let few : length under.corrections.kept ≤ length (row_entries kept) = omega (arith, ap length same, kept_in_few kept) in
    ap (λ (n : ℕ). kept_with (kept_in kept) n (said_in entry)) (sym count)
    ∙ ap (kept_with (kept_in kept) (length given)) (says ∙ ap (λ (l : List (Option Given)). unsaid l given 1) same)
    ∙ said_is_kept (kept_in kept) given (omega (arith, kept_in_few kept, count)) (λ row own is. kept_were_given under kept row own few (ap (λ (l : List (Option Given)). kept_of l row) same ∙ is))
