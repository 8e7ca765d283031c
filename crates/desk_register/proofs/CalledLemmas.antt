-- What rows that stand call things, after one more entry.
use Rattle.std.proofs.Common.{◌≡◌, ◌∙◌, ◌<◌, ℕ, Bool, true, false, cond, List, [], ◌∷◌, ◌++◌, Option, Some, None, length, refl, sym, ap, append_assoc, append-nil, arith}
use Rattle.std.specs.Prelude.{IsSome}
use Rattle.case_numbers.specs.Words.{after_name}
use Rattle.docket_rows.specs.Words.{setup_of}
use Rattle.row_forms.specs.declared.row.Row.{Row}
use Rattle.row_forms.specs.Words.{names_of}
use Rattle.row_forms.specs.declared.line.line.Line.{Line}
use Rattle.row_forms.specs.declared.line.line.Line.TheVariants as line
use Rattle.row_forms.specs.Line.Words.{fields_read, line_read}
use Rattle.desk_numbers.specs.Words.{TextsView}
use Rattle.desk_numbers.specs.Strikes.Words.{is_struck}
use Rattle.desk_register.specs.declared.standing.Standing.{Standing}
use Rattle.desk_register.specs.Called.{called_after, called_as, called_standing, newly_called, said_called, with_newly}
use Rattle.desk_register.specs.Entries.{Note, most_clerks, next_number, note_in}
use Rattle.desk_register.specs.Rows.{row_in}
use Rattle.desk_register.specs.Run.{docketed_by, run_by}

called_after-append : (under : Standing) (kept some more : List (List ℕ)) (texts : TextsView) → called_after under kept texts (some ++ more) ≡ called_after under (kept ++ some) (called_after under kept texts some) more
unfolding called_after
called_after-append under kept [] more texts = ap (λ (l : List (List ℕ)). called_after under l texts more) (sym (append-nil kept))
called_after-append under kept (entry ∷ some) more texts =
    let then : TextsView = called_as (note_in entry) under kept texts entry in
    called_after-append under (kept ++ entry ∷ []) some more then
    ∙ ap (λ (l : List (List ℕ)). called_after under l (called_after under (kept ++ entry ∷ []) then some) more) (append_assoc kept (entry ∷ []) some)

one_called : (under : Standing) (kept : List (List ℕ)) (texts : TextsView) (entry : List ℕ) → called_after under kept texts (entry ∷ []) ≡ called_as (note_in entry) under kept texts entry
unfolding called_after
one_called under kept texts entry = refl

pub called_standing-more : (under : Standing) (kept : List (List ℕ)) (entry : List ℕ) → 0 < length kept → called_standing under (kept ++ entry ∷ []) ≡ called_as (note_in entry) under kept (called_standing under kept) entry
called_standing-more under [] entry begun = absurd (omega (arith, begun))
called_standing-more under (file ∷ later) entry begun =
    called_after-append under (file ∷ []) later (entry ∷ []) []
    ∙ one_called under (file ∷ later) (called_after under (file ∷ []) [] later) entry

-- nothing is called anything by a court's file alone
pub none_called : (under : Standing) (file : List ℕ) → called_standing under (file ∷ []) ≡ []
unfolding called_after
none_called under file = refl

-- an entry that is no row calls nothing anything
pub called_noted : (under : Standing) (kept : List (List ℕ)) (texts : TextsView) (entry : List ℕ) → IsSome (note_in entry) → called_as (note_in entry) under kept texts entry ≡ texts
called_noted under kept texts entry some = by (note_in entry) some
  where
    by : (n : Option Note) → IsSome n → called_as n under kept texts entry ≡ texts
    by None some = cc some
    by (Some note) some = refl

-- what a row says
abbrev pub row_called : Standing → (kept : List (List ℕ)) → TextsView → (entry : List ℕ) → TextsView
row_called under kept texts entry = said_called (setup_of under.court) (docketed_by under kept) (run_by under kept).numbers.moved texts (line_read most_clerks (names_of under.court) (after_name entry)) (fields_read (after_name entry))

pub called_row : (under : Standing) (kept : List (List ℕ)) (texts : TextsView) (entry : List ℕ) (b : Bool) → note_in entry ≡ None → is_struck under.corrections (next_number kept) ≡ b
    → called_as (note_in entry) under kept texts entry ≡ cond b texts (row_called under kept texts entry)
called_row under kept texts entry b none is =
    ap (λ (n : Option Note). called_as n under kept texts entry) none
    ∙ ap (λ (s : Bool). cond s texts (row_called under kept texts entry)) is

-- the texts after an entry that says no row
pub called_none : (under : Standing) (kept : List (List ℕ)) (texts : TextsView) (entry : List ℕ) → note_in entry ≡ None → row_in (line_read most_clerks (names_of under.court) (after_name entry)) ≡ [] → called_as (note_in entry) under kept texts entry ≡ texts
called_none under kept texts entry none said = called_row under kept texts entry (is_struck under.corrections (next_number kept)) none refl ∙ by (is_struck under.corrections (next_number kept))
  where
    nothing : (l : Line) → row_in l ≡ [] → said_called (setup_of under.court) (docketed_by under kept) (run_by under kept).numbers.moved texts l (fields_read (after_name entry)) ≡ texts
    nothing line.Blank lacks = refl
    nothing (line.Fault cause) lacks = refl
    nothing (line.Row row) lacks = cc lacks

    by : (struck : Bool) → cond struck texts (row_called under kept texts entry) ≡ texts
    by true = refl
    by false = nothing (line_read most_clerks (names_of under.court) (after_name entry)) said

-- and after one whose row is struck
pub called_struck : (under : Standing) (kept : List (List ℕ)) (texts : TextsView) (entry : List ℕ) → note_in entry ≡ None → is_struck under.corrections (next_number kept) ≡ true → called_as (note_in entry) under kept texts entry ≡ texts
called_struck under kept texts entry none struck = called_row under kept texts entry true none struck

-- and after one that says this row, with these fields, and isn't struck
pub called_said : (under : Standing) (kept : List (List ℕ)) (texts : TextsView) (entry : List ℕ) (row : Row) (fields : List (List ℕ)) → note_in entry ≡ None → is_struck under.corrections (next_number kept) ≡ false
    → line_read most_clerks (names_of under.court) (after_name entry) ≡ line.Row row → fields ≡ fields_read (after_name entry)
    → called_as (note_in entry) under kept texts entry ≡ with_newly texts (newly_called (setup_of under.court) (docketed_by under kept) (run_by under kept).numbers.moved row.work fields)
called_said under kept texts entry row fields none live said same =
    let setup = setup_of under.court in
    let docketed = docketed_by under kept in
    let moved = (run_by under kept).numbers.moved in
    called_row under kept texts entry false none live
    ∙ ap (λ (l : Line). said_called setup docketed moved texts l (fields_read (after_name entry))) said
    ∙ ap (λ (l : List (List ℕ)). with_newly texts (newly_called setup docketed moved row.work l)) (sym same)
