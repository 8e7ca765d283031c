-- What these definitions come to.
use Rattle.std.specs.Prelude.{◌≡◌, ◌⊎◌, ◌<◌, ℕ, ℤ, false, List, [], ◌∷◌, ◌++◌, Option, Some, None, length}
use Rattle.docket_rows.specs.declared.command.Command.{Command as CommandOf}
use Rattle.docket_rows.specs.declared.refusal.Refusal.{Refusal}
use Rattle.docket_rows.specs.Words.{parts_of, refusal, setup_of}
use Rattle.row_forms.specs.declared.row.Row.{Row}
use Rattle.row_forms.specs.declared.row.Work.TheVariants.{Command}
use Rattle.row_forms.specs.declared.line.line.Line.TheVariants as says
use Rattle.desk_session.specs.Words.{after_mark, left_by}
use Rattle.desk_numbers.specs.Words.{placed_command}
use Rattle.desk_register.specs.declared.standing.Standing.{Standing}
use Rattle.desk_register.specs.Words.{IsHistory, StandsAfter, docketed_by, leaves, outcome, run_by, told}
use Rattle.desk_warnings.specs.declared.register.HeldBack.{HeldBack}
use Rattle.desk_warnings.specs.declared.register.HeldBack.TheVariants.{Nothing, Warned}
use Rattle.desk_warnings.specs.Careful.{careful_answers, careful_leaves, careful_outcome, line_for, taken_at}
use Rattle.desk_warnings.specs.Rows.{labels_new, line_rows, said_at}

-- the rows that are taken of lines, each line after what those before it leave
abbrev pub with_taken : Option (List (List ℕ)) → List (List ℕ) → List (List ℕ)
with_taken None later = later
with_taken (Some rows) later = rows ++ later

unfoldable pub lines_taken : Standing → (held : HeldBack) → (kept : List (List ℕ)) → List (List ℕ) → List (List ℕ)
lines_taken under held kept [] = []
lines_taken under held kept (line ∷ lines) =
    with_taken (taken_at under held kept line) (lines_taken under held (kept ++ careful_leaves under held kept line) lines)

-- Lines leave what the rows that are taken of them would leave without warnings, a line each.
abbrev pub WarningsKeepNothing : Type 0
WarningsKeepNothing = (under : Standing) (held : HeldBack) (kept lines : List (List ℕ))
    → left_by (careful_leaves under held) kept lines ≡ left_by (leaves under) kept (lines_taken under held kept lines)

-- So what stands after entries stands after what they leave then, and if the entries are a history they are one with it.
abbrev pub CarefulIsHistory : Type 0
CarefulIsHistory = (under : Standing) (held : HeldBack) (kept lines : List (List ℕ)) → 0 < length kept → StandsAfter kept under
    → StandsAfter (kept ++ left_by (careful_leaves under held) kept lines) under × (IsHistory kept → IsHistory (kept ++ left_by (careful_leaves under held) kept lines))

-- A line is kept whole: it leaves nothing, or what all its rows leave, one after another.
abbrev pub LineIsKeptWhole : Type 0
LineIsKeptWhole = (under : Standing) (held : HeldBack) (kept : List (List ℕ)) (line : List ℕ)
    → (careful_leaves under held kept line ≡ []) ⊎ (careful_leaves under held kept line ≡ left_by (leaves under) kept (line_rows (line_for held line)))

-- A line with a command that would be refused by what is docketed before the line is taken with a '!' before it alone. Passed over is
-- a row that says what it is called what the row before it makes.
abbrev pub RefusedAreHeld : Type 0
RefusedAreHeld = (under : Standing) (today : Option ℤ) (kept : List (List ℕ)) (line : List ℕ) (before later : List (List ℕ)) (bytes : List ℕ) (row : Row) (asked : CommandOf) (refused : Refusal)
    → line_rows line ≡ before ++ bytes ∷ later → labels_new under bytes ≡ false
    → said_at under kept bytes ≡ says.Row row → row.work ≡ Command asked
    → refusal (setup_of under.court) (parts_of (docketed_by under kept)) (placed_command (run_by under kept).numbers.moved asked) ≡ Some refused
    → after_mark line ≡ None → taken_at under (Warned today) kept line ≡ None

-- Where nothing is held back, a line of one row leaves what it leaves without warnings, and is answered so.
abbrev pub NothingIsHeldBack : Type 0
NothingIsHeldBack = (under : Standing) (kept : List (List ℕ)) (line : List ℕ) → line_rows line ≡ line ∷ []
    → (careful_leaves under Nothing kept line ≡ leaves under kept line) × (careful_answers under Nothing kept line ≡ told under kept line) × (careful_outcome under Nothing kept line ≡ outcome under kept line)
