-- What these definitions come to.
use Rattle.std.specs.Prelude.{◌≡◌, ◌<◌, ℕ, false, List, [], ◌∷◌, ◌++◌, length, Some, All}
use Rattle.case_numbers.specs.Words.{after_name}
use Rattle.court_days.specs.Words.{CourtView}
use Rattle.docket_rows.specs.Words.{parts_of}
use Rattle.row_forms.specs.declared.row.Work.{Work}
use Rattle.row_forms.specs.Words.{names_of}
use Rattle.row_forms.specs.Line.Words.{fields_read, line_read}
use Rattle.office_texts.specs.Run.Words.{closing_text, run_text}
use Rattle.desk_session.specs.Words.{left_by, told_to}
use Rattle.desk_numbers.specs.Strikes.Words.{is_struck, no_corrections, struck_with, struck_without}
use Rattle.desk_register.specs.Words.{HasNoFault, SaysNumbers, StandsAfter, answers, corrections_then, docketed_by, leaves, most_clerks, most_rows, next_number, note_in, reply_by_places, reply_under, row_restored, row_struck, rows_in, run_by}
use Rattle.desk_numbers.specs.declared.given.Given.{Given}
use Rattle.desk_numbers.specs.Words.{given_by, number_for}
use Rattle.desk_register.specs.declared.standing.Standing.{Standing}
use Rattle.desk_entries.specs.Export.{row_written, shown_as}

-- what stands where nothing is struck
abbrev pub plain : CourtView → Standing
plain court = record { court = court; corrections = no_corrections }

-- The answers to lines that have no fault, one by one, after a court's file and with nothing struck, are those that a run of
-- clerk_office writes of their rows together: its text is these answers and then the sheets and calendars of the docket after them.
-- (A row that the desk alone takes is answered as the definition of such a run answers it. clerk_office reads none.)
abbrev pub AnswersAreTheRuns : Type 0
AnswersAreTheRuns = (court : CourtView) (file : List ℕ) (lines : List (List ℕ)) → All (HasNoFault (names_of court)) lines → length lines < most_rows
    → run_text court (rows_in (names_of court) lines)
    ≡ told_to (leaves (plain court)) (answers (plain court)) (file ∷ []) lines ++ closing_text court (parts_of (docketed_by (plain court) (file ∷ left_by (leaves (plain court)) (file ∷ []) lines)))

-- what stands after entries and one more that strikes the row of that number, and what stands after one that restores it
abbrev pub with_strike : Standing → (kept : List (List ℕ)) → (row : ℕ) → Standing
with_strike under kept row = record { court = under.court; corrections = corrections_then under kept (struck_with under.corrections.struck row) }

abbrev pub with_restore : Standing → (kept : List (List ℕ)) → (row : ℕ) → Standing
with_restore under kept row = record { court = under.court; corrections = corrections_then under kept (struck_without under.corrections.struck row) }

-- entries after which this stands, and then a strike and a restore of one row, each of which says what rows gave
pub record AreStruckAndRestored (under : Standing) (kept : List (List ℕ)) (strike restore : List ℕ) (row : ℕ) : Type 0 where
  pub begun : 0 < length kept
  pub struck : note_in strike ≡ Some (row_struck (record { row = row }))
  pub strike_says : SaysNumbers under kept strike
  pub restored : note_in restore ≡ Some (row_restored (record { row = row }))
  pub restore_says : SaysNumbers (with_strike under kept row) (kept ++ strike ∷ []) restore

-- A row that is struck and then restored leaves the docket as it was: the same rows are struck, the same is docketed, and what isn't
-- at the place of its number is the same, so that each deadline and each motion has the number that it had.
abbrev pub ARestoreLeavesTheDocket : Type 0
ARestoreLeavesTheDocket = (under : Standing) (kept : List (List ℕ)) (strike restore : List ℕ) (row : ℕ) → AreStruckAndRestored under kept strike restore row → StandsAfter kept under → is_struck under.corrections row ≡ false →
    let after = kept ++ strike ∷ [] in
    let again = with_restore (with_strike under kept row) after row in
    StandsAfter (after ++ restore ∷ []) again
    × (again.corrections.struck ≡ under.corrections.struck)
    × (docketed_by again (after ++ restore ∷ []) ≡ docketed_by under kept)
    × ((run_by again (after ++ restore ∷ [])).numbers.moved ≡ (run_by under kept).numbers.moved)

-- With nothing struck, each row is written as it is in its entry.
abbrev pub RowsAreWrittenAsTheyAre : Type 0
RowsAreWrittenAsTheyAre = (court : CourtView) (number : ℕ) (entry : List ℕ) → row_written (plain court) [] number entry ≡ shown_as (line_read most_clerks (names_of court) (after_name entry)) (fields_read (after_name entry))

-- An answer shows the number that is noted of its row: where the docket gives what a row starts or enters a place, the answer has
-- the number that the row keeps, or else the new one.
abbrev pub AnAnswerShowsItsNumber : Type 0
AnAnswerShowsItsNumber = (under : Standing) (kept : List (List ℕ)) (asked : Work) (at : Given) →
    let run = run_by under kept in
    given_by asked (reply_by_places under run.docketed run.numbers asked) ≡ Some at
    → given_by asked (reply_under under run (next_number kept) asked) ≡ Some (record at { number = number_for under.corrections.kept run.numbers.moved (next_number kept) at })
