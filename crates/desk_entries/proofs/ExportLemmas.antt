-- Rows as they are written for other programs.
use Rattle.std.proofs.Common.{◌≡◌, ◌∙◌, ◌+◌, ◌++◌, ◌∷◌, ℕ, suc, List, [], Option, Some, None, length, refl, sym, ap, append_assoc, arith}
use Rattle.std.specs.Prelude.{nat_eq, true}
use Rattle.std.proofs.lemmas.Bool.Decides.{nat_tests}
use Rattle.csv.specs.Writing.{default_writer, row_text}
use Rattle.case_numbers.specs.Words.{after_name}
use Rattle.row_forms.specs.declared.row.Work.{Work}
use Rattle.row_forms.specs.Words.{names_of}
use Rattle.desk_numbers.specs.declared.moved.Moved.{Moved}
use Rattle.desk_numbers.proofs.CallerLemmas.{placed_alone}
use Rattle.row_forms.specs.declared.line.line.Line.{Line}
use Rattle.row_forms.specs.declared.line.line.Line.TheVariants as line
use Rattle.row_forms.specs.Line.Words.{fields_read, line_read}
use Rattle.desk_register.specs.declared.standing.Standing.{Standing}
use Rattle.desk_register.specs.Words.{before_number, most_clerks}
use Rattle.desk_entries.specs.Export.{asked_placed, number_asked, row_placed, row_suspended, row_written, rows_written, said_placed, shown_as, suspender_in, work_placed}
use Rattle.desk_entries.specs.Laws.{RowsAreWrittenAsTheyAre}

same_number : (n : ℕ) → nat_eq n n ≡ true
same_number n = grind (arith, nat_tests)

at_its_place : (before : ℕ) (number : Option ℕ) (fields : List (List ℕ)) → row_placed before number number fields ≡ row_text default_writer fields
at_its_place before None fields = refl
at_its_place before (Some number) fields = rw (same_number number) refl

at_its_motion : (asked : Work) (motion : Option ℕ) (fields : List (List ℕ)) → row_suspended asked asked motion motion fields ≡ work_placed asked asked fields
at_its_motion asked None fields = refl
at_its_motion asked (Some motion) fields = rw (same_number motion) refl

none_placed : (said : Line) (fields : List (List ℕ)) → said_placed [] said fields ≡ shown_as said fields
none_placed line.Blank fields = refl
none_placed (line.Fault cause) fields = refl
none_placed (line.Row row) fields =
    ap (λ (w : Work). asked_placed row.work w fields) (sym (placed_alone [] row.work refl))
    ∙ at_its_motion row.work (suspender_in row.work) fields
    ∙ at_its_place (before_number row.work) (number_asked row.work) fields

pub rows_as_they_are : RowsAreWrittenAsTheyAre
unfolding row_written
rows_as_they_are court number entry = none_placed (line_read most_clerks (names_of court) (after_name entry)) (fields_read (after_name entry))

-- what is written of rows, after others
pub rows_written-append : (under : Standing) (moved : List Moved) (number : ℕ) (some more : List (List ℕ)) → rows_written under moved number (some ++ more) ≡ rows_written under moved number some ++ rows_written under moved (number + length some) more
unfolding rows_written
rows_written-append under moved number [] more = ap (λ n. rows_written under moved n more) (none number)
  where
    none : (n : ℕ) → n ≡ n + 0
    none n = omega arith
rows_written-append under moved number (entry ∷ some) more =
    ap (λ (l : List ℕ). row_written under moved number entry ++ l) (rows_written-append under moved (number + 1) some more ∙ ap (λ n. rows_written under moved (number + 1) some ++ rows_written under moved n more) (later number (length some)))
    ∙ sym (append_assoc (row_written under moved number entry) (rows_written under moved (number + 1) some) (rows_written under moved (number + length (entry ∷ some)) more))
  where
    later : (n m : ℕ) → (n + 1) + m ≡ n + suc m
    later n m = omega arith
