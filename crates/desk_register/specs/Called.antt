-- What rows that stand call cases, deadlines and motions, which reports show, and by which later rows may name them: a row says it that isn't
-- struck and that the docket doesn't refuse.
use Rattle.std.specs.Prelude.{ℕ, Bool, false, List, [], ◌∷◌, ◌++◌, Option, Some, None, is_some, if◌then◌else◌}
use Rattle.case_numbers.specs.Words.{after_name}
use Rattle.docket_rows.specs.Words.{CourtSetup, Rows, parts_of, refusal, setup_of}
use Rattle.row_forms.specs.declared.row.Work.{Work}
use Rattle.row_forms.specs.declared.row.Work.TheVariants.{Command, Query}
use Rattle.row_forms.specs.Words.{names_of}
use Rattle.row_forms.specs.declared.line.line.Line.{Line}
use Rattle.row_forms.specs.declared.line.line.Line.TheVariants as line
use Rattle.row_forms.specs.Line.Words.{fields_read, line_read}
use Rattle.desk_numbers.specs.declared.moved.Moved.{Moved}
use Rattle.desk_numbers.specs.Words.{CalledView, TextsView, calls, placed, with_called}
use Rattle.desk_numbers.specs.Strikes.Words.{is_struck}
use Rattle.desk_register.specs.declared.standing.Standing.{Standing}
use Rattle.desk_register.specs.Entries.{Note, most_clerks, next_number, note_in}
use Rattle.desk_register.specs.Run.{docketed_by, run_by}

-- after these rows the docket refuses what a row asks for, in which things are named by their places
abbrev pub is_refused : CourtSetup → (docketed : Rows) → Work → Bool
is_refused setup docketed (Command command) = is_some (refusal setup (parts_of docketed) command)
is_refused setup docketed (Query query) = false

-- what a row calls something that asks for this, in which things are named by their places, and would call something so
abbrev pub unless_refused : CourtSetup → (docketed : Rows) → Work → Option CalledView → Option CalledView
unless_refused setup docketed asked None = None
unless_refused setup docketed asked (Some c) = if is_refused setup docketed asked then None else Some c

-- what a row calls something that asks for this and has these fields, where this is what isn't at the place of its number
abbrev pub newly_called : CourtSetup → (docketed : Rows) → List Moved → Work → (fields : List (List ℕ)) → Option CalledView
newly_called setup docketed moved asked fields = unless_refused setup docketed (placed moved asked) (calls asked fields)

-- the texts after a row that calls something so, if it does
abbrev pub with_newly : TextsView → Option CalledView → TextsView
with_newly texts None = texts
with_newly texts (Some c) = with_called texts c

-- the texts after a line that says this and has these fields
abbrev pub said_called : CourtSetup → (docketed : Rows) → List Moved → TextsView → Line → (fields : List (List ℕ)) → TextsView
said_called setup docketed moved texts line.Blank fields = texts
said_called setup docketed moved texts (line.Fault cause) fields = texts
said_called setup docketed moved texts (line.Row row) fields = with_newly texts (newly_called setup docketed moved row.work fields)

-- the texts after an entry that comes after these: one that is no row says none, and a row that is struck says none
abbrev pub called_as : Option Note → Standing → (kept : List (List ℕ)) → TextsView → (entry : List ℕ) → TextsView
called_as (Some note) under kept texts entry = texts
called_as None under kept texts entry =
    if is_struck under.corrections (next_number kept) then texts
    else said_called (setup_of under.court) (docketed_by under kept) (run_by under kept).numbers.moved texts (line_read most_clerks (names_of under.court) (after_name entry)) (fields_read (after_name entry))

-- the texts after entries that come after these
unfoldable pub called_after : Standing → (kept : List (List ℕ)) → TextsView → (later : List (List ℕ)) → TextsView
called_after under kept texts [] = texts
called_after under kept texts (entry ∷ later) = called_after under (kept ++ entry ∷ []) (called_as (note_in entry) under kept texts entry) later

-- what the rows of entries call things, of which the first is a court's file
abbrev pub called_standing : Standing → (entries : List (List ℕ)) → TextsView
called_standing under [] = []
called_standing under (file ∷ later) = called_after under (file ∷ []) [] later
