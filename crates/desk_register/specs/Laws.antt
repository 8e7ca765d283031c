-- What these definitions come to.
use Rattle.std.specs.Prelude.{◌≡◌, ◌≢◌, ◌<◌, ◌⊎◌, ⊤, ℕ, true, false, IsSome, List, [], ◌∷◌, ◌++◌, Option, length, map, None, Some}
use Rattle.case_numbers.specs.Words.{AreApart}
use Rattle.row_forms.specs.declared.fault.RowCause.{RowCause}
use Rattle.row_forms.specs.declared.line.line.Line.TheVariants as line
use Rattle.row_forms.specs.Words.{CourtNames, names_of}
use Rattle.row_forms.specs.Line.Words.{line_read}
use Rattle.desk_session.specs.Words.{left_by}
use Rattle.desk_numbers.specs.Strikes.Words.{is_struck}
use Rattle.desk_register.specs.Cases.{cases_of}
use Rattle.desk_register.specs.CaseLines.{as_it_is, lacks_field}
use Rattle.desk_numbers.specs.declared.given.Given.{Given}
use Rattle.desk_numbers.specs.Words.{kept_of}
use Rattle.desk_register.specs.declared.standing.Standing.{Standing}
use Rattle.desk_register.specs.Entries.{most_clerks, next_number, note_in}
use Rattle.desk_register.specs.Rows.{cased_at, follows, leaves, reading_at}
use Rattle.desk_register.specs.Run.{docketed_by, run_by}
use Rattle.desk_register.specs.History.{IsHistory, StandsAfter}
use Rattle.desk_register.specs.LineFaults.{faults_of, left_before}
use Rattle.desk_register.specs.Subjects.{named_in}

-- What a line leaves may follow when the journal is opened again, and is no court's file, no strike and no restore.
abbrev pub WhatIsLeftFollows : Type 0
WhatIsLeftFollows = (under : Standing) (kept : List (List ℕ)) (line entry : List ℕ) → leaves under kept line ≡ entry ∷ [] → (note_in entry ≡ None) × follows under kept entry

-- What stands after entries stands after what lines leave then, and if they are a history they are one with it.
abbrev pub WhatIsLeftIsHistory : Type 0
WhatIsLeftIsHistory = (under : Standing) (kept lines : List (List ℕ)) → 0 < length kept → StandsAfter kept under
    → StandsAfter (kept ++ left_by (leaves under) kept lines) under × (IsHistory kept → IsHistory (kept ++ left_by (leaves under) kept lines))

-- a line has no fault
abbrev pub HasNoFault : CourtNames → List ℕ → Type 0
HasNoFault names bytes = (cause : RowCause) → line_read most_clerks names bytes ≢ line.Fault cause

-- a line names a deadline or a motion without its number
abbrev pub NamesSubject : Standing → (kept : List (List ℕ)) → (line : List ℕ) → Type 0
NamesSubject under kept line = IsSome (named_in (names_of under.court) (cased_at under kept line).text)

-- Lines that are blank, or say rows, or name a deadline or a motion without its number, which only the docket tells; each after what
-- those before it leave, with the number 1 in place of such a name.
unfoldable pub AllSayRows : Standing → (kept : List (List ℕ)) → (lines : List (List ℕ)) → Type 0
AllSayRows under kept [] = ⊤
AllSayRows under kept (bytes ∷ lines) =
    (HasNoFault (names_of under.court) (reading_at under kept bytes).text ⊎ NamesSubject under kept bytes) × AllSayRows under (kept ++ left_before under kept bytes) lines

-- Lines in which no fault is found are blank, or say rows, or name a deadline or a motion.
abbrev pub FaultlessLinesSayRows : Type 0
FaultlessLinesSayRows = (under : Standing) (kept : List (List ℕ)) (lines : List (ℕ × List ℕ)) → faults_of under kept lines ≡ [] → AllSayRows under kept (map (λ line. line.1) lines)

-- A case number is one case: after any entries no two names have one number, and no two have one key.
abbrev pub ACaseNumberIsOneCase : Type 0
ACaseNumberIsOneCase = (under : Standing) (kept : List (List ℕ)) → AreApart (cases_of under kept).named

-- A line that says a row, or has another fault than in its third, its fourth or its fifth field, is read as it is.
abbrev pub OtherLinesAreReadAsTheyAre : Type 0
OtherLinesAreReadAsTheyAre = (under : Standing) (kept : List (List ℕ)) (bytes : List ℕ) →
    let said = line_read most_clerks (names_of under.court) bytes in
    lacks_field 3 said ≡ false → lacks_field 4 said ≡ false → lacks_field 5 said ≡ false → reading_at under kept bytes ≡ as_it_is bytes

-- A row that is struck is left out: its entry changes nothing of what is docketed.
abbrev pub AStruckRowIsLeftOut : Type 0
AStruckRowIsLeftOut = (under : Standing) (kept : List (List ℕ)) (entry : List ℕ) → 0 < length kept → note_in entry ≡ None → is_struck under.corrections (next_number kept) ≡ true
    → docketed_by under (kept ++ entry ∷ []) ≡ docketed_by under kept

-- A case keeps its number and its name, whatever is struck or restored: entries name the same cases under all corrections.
abbrev pub ACaseKeepsItsNumber : Type 0
ACaseKeepsItsNumber = (under other : Standing) (kept : List (List ℕ)) → other.court ≡ under.court → cases_of other kept ≡ cases_of under kept

-- a row gives this number
abbrev pub KeepsNumber : Given → Option Given → Type 0
KeepsNumber own None = ⊥
KeepsNumber own (Some given) = given.number ≡ own.number

-- Each row has the number that it keeps, whatever is struck and whichever court's file stands: one that gave a number before the
-- last correction gives it to what it starts or enters, or, where it is struck or refused now, goes on keeping it.
abbrev pub RowsKeepTheirNumbers : Type 0
RowsKeepTheirNumbers = (under : Standing) (kept : List (List ℕ)) (row : ℕ) (own : Given) → 0 < row → row < next_number kept → kept_of under.corrections.kept row ≡ Some own → KeepsNumber own (kept_of (run_by under kept).numbers.given row)
