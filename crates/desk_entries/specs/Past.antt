-- What a docket's entries say beside what it has now: the rows that are struck, those that were done and are refused now, and when rows
-- were struck or restored or another court's file was taken. A calendar program needs all of it, so that what it shows never goes
-- back.
use Rattle.std.specs.Prelude.{ℕ, ◌+◌, ◌&&◌, ◌||◌, Bool, false, not, List, [], ◌∷◌, ◌++◌, Option, Some, None, codes, drop, nat_eq, if◌then◌else◌}
use Rattle.std.specs.List.{flat_map, starts_with}
use Rattle.case_numbers.specs.Words.{after_name}
use Rattle.row_forms.specs.declared.numbered.NumberedRow.{NumberedRow}
use Rattle.row_forms.specs.Words.{names_of}
use Rattle.row_forms.specs.declared.line.line.Line.{Line}
use Rattle.row_forms.specs.declared.line.line.Line.TheVariants as line
use Rattle.row_forms.specs.Line.Words.{line_read}
use Rattle.office_texts.specs.Run.Words.{row_numbers}
use Rattle.desk_numbers.specs.declared.moved.Moved.{Moved}
use Rattle.desk_numbers.specs.Strikes.Words.{is_struck, remark_in}
use Rattle.desk_entries.specs.declared.past.Corrected.{Corrected}
use Rattle.desk_register.specs.declared.standing.Standing.{Standing}
use Rattle.desk_register.specs.Words.{Change, Note, court_file, most_clerks, note_in, row_restored, row_struck, rows_with}
use Rattle.desk_entries.specs.Reported.{said_standing}

-- the answer that the entry of a row keeps, after the line of the row
abbrev pub answer_in : (entry : List ℕ) → List ℕ
answer_in entry = remark_in (after_name entry)

-- the answer refuses the row of that number, which says this: `7 1 refused 15 JudgeBusy 3 2`
abbrev pub refuses : (number : ℕ) → (answer : List ℕ) → Line → Bool
refuses number answer (line.Row row) = starts_with nat_eq answer (row_numbers number row.clerk ++ codes "refused ")
refuses number answer said = false

-- a note strikes the row of that number
abbrev pub strikes_it : (number : ℕ) → Note → Bool
strikes_it number (court_file file) = false
strikes_it number (row_struck struck) = nat_eq struck.row number
strikes_it number (row_restored restored) = false

-- the first note of these entries does so: no correction came before that strike
abbrev pub strikes_first : (number : ℕ) → Option Note → (others : Bool) → Bool
strikes_first number None others = others
strikes_first number (Some note) others = strikes_it number note

unfoldable pub is_struck_first : (number : ℕ) → (later : List (List ℕ)) → Bool
is_struck_first number [] = false
is_struck_first number (entry ∷ later) = strikes_first number (note_in entry) (is_struck_first number later)

-- a note restores the row of that number
abbrev pub restores_it : (number : ℕ) → Option Note → Bool
restores_it number None = false
restores_it number (Some (court_file file)) = false
restores_it number (Some (row_struck struck)) = false
restores_it number (Some (row_restored restored)) = nat_eq restored.row number

-- and one of these entries does so: from there on the row was decided again
unfoldable pub is_restored : (number : ℕ) → (later : List (List ℕ)) → Bool
is_restored number [] = false
is_restored number (entry ∷ later) = restores_it number (note_in entry) || is_restored number later

-- the first correction after the row of that number struck it, and none restored it since
abbrev pub stays_struck : (number : ℕ) → (later : List (List ℕ)) → Bool
stays_struck number later = is_struck_first number later && not (is_restored number later)

-- The row of that number has docketed nothing ever: it was refused, struck before other corrections could let it be done, and never
-- restored since.
abbrev pub was_never_done : (number : ℕ) → (entry : List ℕ) → Line → (later : List (List ℕ)) → Bool
was_never_done number entry said later = refuses number (answer_in entry) said && stays_struck number later

-- the row of that number, whose entry this is and says this, if it is struck and has docketed something, where this is what isn't
-- at the place of its number
abbrev pub row_struck_said : Standing → List Moved → (number : ℕ) → (entry : List ℕ) → Line → (later : List (List ℕ)) → List NumberedRow
row_struck_said under moved number entry said later =
    if is_struck under.corrections number && not (was_never_done number entry said later) then said_standing moved number said
    else []

-- of an entry that comes before these: none where it is no row
abbrev pub row_struck_as : Option Note → Standing → List Moved → (number : ℕ) → (entry : List ℕ) → (later : List (List ℕ)) → List NumberedRow
row_struck_as (Some note) under moved number entry later = []
row_struck_as None under moved number entry later = row_struck_said under moved number entry (line_read most_clerks (names_of under.court) (after_name entry)) later

-- those of entries of which the first that is a row has this number
unfoldable pub rows_struck : Standing → List Moved → (number : ℕ) → (entries : List (List ℕ)) → List NumberedRow
rows_struck under moved number [] = []
rows_struck under moved number (entry ∷ later) = row_struck_as (note_in entry) under moved number entry later ++ rows_struck under moved (rows_with (note_in entry) number) later

-- The row of a change, which says this, if it was done once and is refused now: another was struck on which it rests, or the court's
-- file is another.
abbrev pub row_refused_said : List Moved → Change → Line → List NumberedRow
row_refused_said moved change said =
    if refuses change.number change.answer said && not (refuses change.number (answer_in change.entry) said) then said_standing moved change.number said
    else []

abbrev pub row_refused : Standing → List Moved → Change → List NumberedRow
row_refused under moved change = row_refused_said moved change (line_read most_clerks (names_of under.court) (after_name change.entry))

-- those of some changes
abbrev pub rows_refused : Standing → List Moved → List Change → List NumberedRow
rows_refused under moved changes = flat_map (row_refused under moved) changes

-- after these rows a note came: one correction more
abbrev pub noted_after : (rows : ℕ) → Corrected → Corrected
noted_after rows before = record { rows_before = rows; count = before.count + 1 }

-- after an entry that is a note, or a row
abbrev pub corrected_with : Option Note → (rows : ℕ) → Corrected → Corrected
corrected_with (Some note) rows before = noted_after rows before
corrected_with None rows before = before

unfoldable pub corrected_by : (rows : ℕ) → Corrected → (later : List (List ℕ)) → Corrected
corrected_by rows before [] = before
corrected_by rows before (entry ∷ later) = corrected_by (rows_with (note_in entry) rows) (corrected_with (note_in entry) rows before) later

-- how often entries strike or restore a row or have another court's file, and how many rows there are before the last of these
abbrev pub corrections_in : (kept : List (List ℕ)) → Corrected
corrections_in kept = corrected_by 0 (record { rows_before = 0; count = 0 }) (drop 1 kept)
