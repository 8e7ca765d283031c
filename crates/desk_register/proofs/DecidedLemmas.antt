-- What entries come to, after one more.
use Rattle.std.proofs.Common.{◌≡◌, ◌∙◌, ◌+◌, ◌<◌, ℕ, Bool, true, false, cond, List, [], ◌∷◌, ◌++◌, length, refl, sym, ap, add-zero, arith}
use Rattle.std.specs.Prelude.{IsSome, None}
use Rattle.case_numbers.specs.Words.{after_name}
use Rattle.row_forms.specs.declared.row.Row.{Row}
use Rattle.row_forms.specs.Words.{names_of}
use Rattle.row_forms.specs.declared.line.line.Line.{Line}
use Rattle.row_forms.specs.declared.line.line.Line.TheVariants as line
use Rattle.row_forms.specs.Line.Words.{line_read}
use Rattle.desk_numbers.specs.Strikes.Words.{is_struck}
use Rattle.desk_register.specs.declared.standing.Standing.{Standing}
use Rattle.desk_register.specs.Entries.{most_clerks, next_number, note_in, row_entries, rows_among}
use Rattle.desk_register.specs.Laws.{AStruckRowIsLeftOut}
use Rattle.desk_register.specs.Rows.{row_in}
use Rattle.desk_register.specs.Run.{Run, opening_run, run_after, run_by, run_entry, run_past, run_said, run_with}
use Rattle.desk_register.proofs.ListLemmas.{row_entries-note, row_entries-row}

next_place : (number : ℕ) (entry : List ℕ) (entries : List (List ℕ)) → number + 1 + length entries ≡ number + length (entry ∷ entries)
next_place number entry entries = omega arith

run_after-append : (under : Standing) (run : Run) (number : ℕ) (some more : List (List ℕ)) → run_after under run number (some ++ more) ≡ run_after under (run_after under run number some) (number + length some) more
unfolding run_after
run_after-append under run number [] more = ap (λ n. run_after under run n more) (sym (add-zero number))
run_after-append under run number (entry ∷ some) more =
    run_after-append under (run_entry under run number entry) (number + 1) some more
    ∙ ap (λ n. run_after under (run_after under (run_entry under run number entry) (number + 1) some) n more) (next_place number entry some)

one_entry : (under : Standing) (run : Run) (number : ℕ) (entry : List ℕ) → run_after under run number (entry ∷ []) ≡ run_entry under run number entry
unfolding run_after
one_entry under run number entry = refl

-- after a row's entry
pub run_by-row : (under : Standing) (kept : List (List ℕ)) (entry : List ℕ) → 0 < length kept → note_in entry ≡ None → run_by under (kept ++ entry ∷ []) ≡ run_entry under (run_by under kept) (next_number kept) entry
unfolding run_by
run_by-row under kept entry begun none =
    let numbered : 1 + length (row_entries kept) ≡ next_number kept = omega arith in
    ap (run_after under (opening_run under) 1) (row_entries-row kept entry begun none)
    ∙ run_after-append under (opening_run under) 1 (row_entries kept) (entry ∷ [])
    ∙ one_entry under (run_after under (opening_run under) 1 (row_entries kept)) (1 + length (row_entries kept)) entry
    ∙ ap (λ n. run_entry under (run_after under (opening_run under) 1 (row_entries kept)) n entry) numbered

-- that isn't struck
run_by-live : (under : Standing) (kept : List (List ℕ)) (entry : List ℕ) → 0 < length kept → note_in entry ≡ None → is_struck under.corrections (next_number kept) ≡ false
    → run_by under (kept ++ entry ∷ []) ≡ run_said under (run_by under kept) (next_number kept) (line_read most_clerks (names_of under.court) (after_name entry))
run_by-live under kept entry begun none live =
    run_by-row under kept entry begun none
    ∙ ap (λ b. cond b (run_past under (run_by under kept) (next_number kept)) (run_said under (run_by under kept) (next_number kept) (line_read most_clerks (names_of under.court) (after_name entry)))) live

-- and says this row
pub run_by-more : (under : Standing) (kept : List (List ℕ)) (entry : List ℕ) (row : Row) → 0 < length kept → note_in entry ≡ None → is_struck under.corrections (next_number kept) ≡ false
    → line_read most_clerks (names_of under.court) (after_name entry) ≡ line.Row row → run_by under (kept ++ entry ∷ []) ≡ run_with under (run_by under kept) (next_number kept) row.work
run_by-more under kept entry row begun none live said = run_by-live under kept entry begun none live ∙ ap (run_said under (run_by under kept) (next_number kept)) said

-- or says none
said_none : (under : Standing) (run : Run) (number : ℕ) (said : Line) → row_in said ≡ [] → run_said under run number said ≡ run_past under run number
said_none under run number line.Blank none = refl
said_none under run number (line.Fault cause) none = refl
said_none under run number (line.Row row) none = cc none

-- or that is struck
pub run_by-struck : (under : Standing) (kept : List (List ℕ)) (entry : List ℕ) → 0 < length kept → note_in entry ≡ None → is_struck under.corrections (next_number kept) ≡ true → run_by under (kept ++ entry ∷ []) ≡ run_past under (run_by under kept) (next_number kept)
run_by-struck under kept entry begun none struck =
    run_by-row under kept entry begun none
    ∙ ap (λ b. cond b (run_past under (run_by under kept) (next_number kept)) (run_said under (run_by under kept) (next_number kept) (line_read most_clerks (names_of under.court) (after_name entry)))) struck

-- what says no row is passed over in either case
pub run_by-none : (under : Standing) (kept : List (List ℕ)) (entry : List ℕ) → 0 < length kept → note_in entry ≡ None → row_in (line_read most_clerks (names_of under.court) (after_name entry)) ≡ [] → run_by under (kept ++ entry ∷ []) ≡ run_past under (run_by under kept) (next_number kept)
run_by-none under kept entry begun none said = by (is_struck under.corrections (next_number kept)) refl
  where
    by : (b : Bool) → is_struck under.corrections (next_number kept) ≡ b → run_by under (kept ++ entry ∷ []) ≡ run_past under (run_by under kept) (next_number kept)
    by true struck = run_by-struck under kept entry begun none struck
    by false live = run_by-live under kept entry begun none live ∙ said_none under (run_by under kept) (next_number kept) (line_read most_clerks (names_of under.court) (after_name entry)) said

-- and after an entry that is no row
pub run_by-note : (under : Standing) (kept : List (List ℕ)) (entry : List ℕ) → 0 < length kept → IsSome (note_in entry) → run_by under (kept ++ entry ∷ []) ≡ run_by under kept
unfolding run_by
run_by-note under kept entry begun some = ap (run_after under (opening_run under) 1) (row_entries-note kept entry begun some)

-- before the first row
pub first_run : (under : Standing) (file : List ℕ) → run_by under (file ∷ []) ≡ opening_run under
unfolding run_by run_after rows_among
first_run under file = refl

-- what says no row has none
pub no_row_in : (said : Line) → ((row : Row) → said ≡ line.Row row → ⊥) → row_in said ≡ []
no_row_in line.Blank none = refl
no_row_in (line.Fault cause) none = refl
no_row_in (line.Row row) none = absurd (none row refl)

-- the law
pub left_out : AStruckRowIsLeftOut
left_out under kept entry begun none struck = ap (λ (r : Run). r.docketed) (run_by-struck under kept entry begun none struck)
