-- The rows whose answers a correction changes: taken one after another they are those that are changed.
use Rattle.std.proofs.Common.{◌≡◌, ◌∙◌, ◌+◌, ◌-◌, ◌<◌, ◌≤◌, ◌++◌, ◌∷◌, [], ℕ, suc, zero, Bool, true, false, List, length, length-append, ap, refl, sym, arith, nat_eq, eqb-true, ne_eqb, subst}
use Rattle.std.proofs.lemmas.Bool.{eqb-false}
use Rattle.std.specs.Prelude.{IsSome, Option, Some, None, if◌then◌else◌}
use Rattle.std.specs.List.{flat_map, range_with_len}
use Rattle.case_numbers.specs.Words.{after_name}
use Rattle.desk_numbers.specs.Strikes.Words.{CorrectionsView, is_struck}
use Rattle.desk_register.specs.declared.standing.Standing.{Standing}
use Rattle.desk_entries.specs.Words.{Change, Note, change_as, changes_after, changes_by, is_left, kept_answers, left_again, next_number, note_in, row_entries}
use Rattle.desk_entries.proofs.CallerLemmas.{next_number-few, next_number-note, next_number-row}
use Rattle.desk_program.specs.Changed.{ChangedRowView, change_of, changed_at, changed_row, changes_between}
use Rattle.desk_program.specs.Inside.Changed.{AreInOrder, first_of, rest_of, walked}

-- the changed ones of some rows are that of the first, if it is one, and those of the others
pub walked_more : (corrections : CorrectionsView) (number next : ℕ) (had has : List Change) → number < next
    → walked corrections (next - number) number had has ≡ changed_row (is_struck corrections number) (first_of had number) (first_of has number) ++ walked corrections (next - (number + 1)) (number + 1) (rest_of had number) (rest_of has number)
unfolding walked
walked_more corrections number next had has less =
    let left : next - number ≡ suc (next - (number + 1)) = omega (arith, less) in
    rw left refl

-- changes of later rows have none of this one
none_later : (first number : ℕ) (changes : List Change) → AreInOrder first changes → number < first → change_of changes number ≡ None
unfolding AreInOrder
none_later first number [] order less = refl
none_later first number (c ∷ cs) order less =
    let other : nat_eq c.number number ≡ false = ne_eqb c.number number (λ same. absurd (omega (arith, less, order.0, same))) in
    rw other (none_later (c.number + 1) number cs order.1 (omega (arith, less, order.0)))

-- the first change is that of the row, if there is one
first_is : (number : ℕ) (changes : List Change) → AreInOrder number changes → first_of changes number ≡ change_of changes number
unfolding AreInOrder
first_is number [] order = refl
first_is number (c ∷ cs) order = by (nat_eq c.number number) refl
  where
    by : (b : Bool) → nat_eq c.number number ≡ b → first_of (c ∷ cs) number ≡ change_of (c ∷ cs) number
    by true is = rw is refl
    by false is = rw is (sym (none_later (c.number + 1) number cs order.1 (omega (arith, order.0))))

-- those after it are in order
rest_in_order : (number : ℕ) (changes : List Change) → AreInOrder number changes → AreInOrder (number + 1) (rest_of changes number)
unfolding AreInOrder
rest_in_order number [] order = tt
rest_in_order number (c ∷ cs) order = by (nat_eq c.number number) refl
  where
    by : (b : Bool) → nat_eq c.number number ≡ b → AreInOrder (number + 1) (rest_of (c ∷ cs) number)
    by true is = rw is (subst (λ (n : ℕ). AreInOrder (n + 1) cs) (eqb-true c.number number is) order.1)
    by false is =
        let other = eqb-false c.number number is in
        let later : number + 1 ≤ c.number = omega (arith, order.0, other) in
        rw is (later, order.1)

-- and have the changes of later rows
rest_has : (number later : ℕ) (changes : List Change) → number < later → change_of (rest_of changes number) later ≡ change_of changes later
rest_has number later [] less = refl
rest_has number later (c ∷ cs) less = by (nat_eq c.number number) refl
  where
    by : (b : Bool) → nat_eq c.number number ≡ b → change_of (rest_of (c ∷ cs) number) later ≡ change_of (c ∷ cs) later
    by true is =
        let same = eqb-true c.number number is in
        let other : nat_eq c.number later ≡ false = ne_eqb c.number later (λ e. absurd (omega (arith, less, same, e))) in
        rw (is, other) refl
    by false is = rw is refl

-- later rows are changed alike
same_later : (corrections : CorrectionsView) (number first count : ℕ) (had has : List Change) → number < first
    → flat_map (changed_at corrections (rest_of had number) (rest_of has number)) (range_with_len first count) ≡ flat_map (changed_at corrections had has) (range_with_len first count)
same_later corrections number first zero had has less = refl
same_later corrections number first (suc count) had has less =
    ap (λ (l : List ChangedRowView). l ++ flat_map (changed_at corrections (rest_of had number) (rest_of has number)) (range_with_len (first + 1) count))
    (ap (λ (c : Option Change). changed_row (is_struck corrections first) c (change_of (rest_of has number) first)) (rest_has number first had less) ∙ ap (changed_row (is_struck corrections first) (change_of had first)) (rest_has number first has less))
    ∙ ap (λ (l : List ChangedRowView). changed_at corrections had has first ++ l) (same_later corrections number (first + 1) count had has (omega (arith, less)))

-- taken one after another, the rows are those that are changed
walked_is : (corrections : CorrectionsView) (count number : ℕ) (had has : List Change) → AreInOrder number had → AreInOrder number has
    → walked corrections count number had has ≡ flat_map (changed_at corrections had has) (range_with_len number count)
unfolding walked
walked_is corrections zero number had has had_order has_order = refl
walked_is corrections (suc count) number had has had_order has_order =
    ap (λ (l : List ChangedRowView). l ++ walked corrections count (number + 1) (rest_of had number) (rest_of has number))
    (ap (λ (c : Option Change). changed_row (is_struck corrections number) c (first_of has number)) (first_is number had had_order) ∙ ap (changed_row (is_struck corrections number) (change_of had number)) (first_is number has has_order))
    ∙ ap (λ (l : List ChangedRowView). changed_at corrections had has number ++ l)
    (walked_is corrections count (number + 1) (rest_of had number) (rest_of has number) (rest_in_order number had had_order) (rest_in_order number has has_order) ∙ same_later corrections number (number + 1) count had has (omega arith))

-- changes of rows after the first are also those of all
later_in_order : (number : ℕ) (changes : List Change) → AreInOrder (number + 1) changes → AreInOrder number changes
unfolding AreInOrder
later_in_order number [] order = tt
later_in_order number (c ∷ cs) order = (omega (arith, order.0), order.1)

-- a row has no change, or one with its number
row_in_order : (under : Standing) (kept : List (List ℕ)) (entry : List ℕ) (changes : List Change) → AreInOrder (next_number kept + 1) changes → AreInOrder (next_number kept) (change_as None under kept entry ++ changes)
unfolding AreInOrder
row_in_order under kept entry changes order = by (is_struck under.corrections (next_number kept)) (is_left (left_again under kept entry) entry)
  where
    by : (struck left : Bool) → AreInOrder (next_number kept) ((if struck then [] else if left then [] else record { number = next_number kept; entry = entry; answer = kept_answers under kept (after_name entry) } ∷ []) ++ changes)
    by true left = later_in_order (next_number kept) changes order
    by false true = later_in_order (next_number kept) changes order
    by false false = (omega arith, order)

-- the changes to entries are in the order of their rows
after_in_order : (under : Standing) (kept later : List (List ℕ)) → 0 < length kept → AreInOrder (next_number kept) (changes_after under kept later)
unfolding AreInOrder changes_after
after_in_order under kept [] begun = tt
after_in_order under kept (entry ∷ later) begun = by (note_in entry) refl (after_in_order under (kept ++ entry ∷ []) later more)
  where
    more : 0 < length (kept ++ entry ∷ [])
    more = omega (arith, length-append kept (entry ∷ []))

    by : (note : Option Note) → note_in entry ≡ note → AreInOrder (next_number (kept ++ entry ∷ [])) (changes_after under (kept ++ entry ∷ []) later) → AreInOrder (next_number kept) (change_as note under kept entry ++ changes_after under (kept ++ entry ∷ []) later)
    by (Some note) is order = subst (λ (n : ℕ). AreInOrder n (changes_after under (kept ++ entry ∷ []) later)) (next_number-note kept entry begun (subst IsSome (sym is) refl)) order
    by None is order = row_in_order under kept entry (changes_after under (kept ++ entry ∷ []) later) (subst (λ (n : ℕ). AreInOrder n (changes_after under (kept ++ entry ∷ []) later)) (next_number-row kept entry begun is) order)

-- of those of which the first is a court's file
by_in_order : (under : Standing) (entries : List (List ℕ)) → AreInOrder 1 (changes_by under entries)
unfolding AreInOrder
by_in_order under [] = tt
by_in_order under (file ∷ later) =
    let one : next_number (file ∷ []) ≡ 1 = omega (arith, next_number-few (file ∷ []) (omega arith)) in
    subst (λ (n : ℕ). AreInOrder n (changes_after under (file ∷ []) later)) one (after_in_order under (file ∷ []) later (omega arith))

-- taken one after another, the rows of entries are those that are changed
walked_between : (now after : Standing) (entries : List (List ℕ)) → walked after.corrections (next_number entries - 1) 1 (changes_by now entries) (changes_by after entries) ≡ changes_between now after entries
unfolding changes_between
walked_between now after entries =
    let rows : next_number entries - 1 ≡ length (row_entries entries) = omega arith in
    walked_is after.corrections (next_number entries - 1) 1 (changes_by now entries) (changes_by after entries) (by_in_order now entries) (by_in_order after entries)
    ∙ ap (λ (n : ℕ). flat_map (changed_at after.corrections (changes_by now entries) (changes_by after entries)) (range_with_len 1 n)) rows

-- and so they are where these are the number of the next row and the changes
pub changed_between : (now after : Standing) (entries : List (List ℕ)) (next : ℕ) (had has : List Change) → next ≡ next_number entries → had ≡ changes_by now entries → has ≡ changes_by after entries → walked after.corrections (next - 1) 1 had has ≡ changes_between now after entries
changed_between now after entries next had has next_is had_is has_is =
    ap (λ (n : ℕ). walked after.corrections (n - 1) 1 had has) next_is
    ∙ ap (λ (l : List Change). walked after.corrections (next_number entries - 1) 1 l has) had_is
    ∙ ap (λ (l : List Change). walked after.corrections (next_number entries - 1) 1 (changes_by now entries) l) has_is
    ∙ walked_between now after entries

-- where there are none, there are no rows
pub none_between : (rows : List ℕ) → length rows ≡ 0 → rows ≡ []
none_between [] none = refl
none_between (row ∷ rows) none = absurd (omega (arith, none))

-- and where there are some, there are rows
pub some_between : (rows : List ℕ) (count : ℕ) → count ≡ length rows → (count ≡ 0 → ⊥) → rows ≡ [] → ⊥
some_between rows count is some none = some (is ∙ ap length none)
