-- A time for an appeal and the motions that move it (Fed. R. App. P. 4(a)(4)), among the deadlines of a case.
use Rattle.std.specs.Prelude.{ℕ, ℤ, List, [], ◌∷◌, ◌++◌, Some, codes}
use Rattle.std.specs.Fmt.{decimal}
use Rattle.std.specs.List.{flat_map}
use Rattle.rule6.specs.declared.timeliness.Filing.{Filing}
use Rattle.rule_periods.specs.Words.{DeadlineRowView}
use Rattle.docket_rows.specs.declared.command.Counted.TheVariants.{Deadline}
use Rattle.docket_rows.specs.declared.sheet.SheetDeadline.{SheetDeadline}
use Rattle.reason_notes.specs.Warnings.Words.{moved_note, note}
use Rattle.desk_numbers.specs.declared.moved.Moved.{Moved}
use Rattle.desk_numbers.specs.Words.{number_in}

-- on a deadline that would start, for the act of one that its case has, if that is recorded: what the memo would say
abbrev pub moved_by : DeadlineRowView → (other : SheetDeadline) → List ℕ
moved_by row other = moved_note row other.row other.row.filed

-- for each that it has
abbrev pub moved_notes : DeadlineRowView → (others : List SheetDeadline) → List ℕ
moved_notes row others = flat_map (moved_by row) others

-- `if timely, it moves deadline 7: FRAP 4(a)(4)`
abbrev pub moves_words : (number : ℕ) → List ℕ
moves_words number = codes "if timely, it moves deadline " ++ decimal number ++ codes ": FRAP 4(a)(4)"

-- the line on an act, where the memo would say something of that deadline for it
abbrev pub moves_if_said : (said : List ℕ) → (day : ℤ) → (number : ℕ) → List ℕ
moves_if_said [] day number = []
moves_if_said (byte ∷ bytes) day number = note (Some day) (moves_words number)

-- on an act of a deadline, for another of its case, whose time it moves
abbrev pub moves : List Moved → (case : ℕ) → (row : DeadlineRowView) → Filing → (other : SheetDeadline) → List ℕ
moves moved case row filing other = moves_if_said (moved_note other.row row (Some filing)) filing.day (number_in moved case Deadline other.number)

-- for each that it has
abbrev pub moves_notes : List Moved → (case : ℕ) → (row : DeadlineRowView) → Filing → (others : List SheetDeadline) → List ℕ
moves_notes moved case row filing others = flat_map (moves moved case row filing) others
