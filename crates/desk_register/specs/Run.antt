-- The docket to which entries come: their rows are decided one after another by what stands, and what each starts or enters has
-- a number, which stays with its row.
use Rattle.std.specs.Prelude.{ℕ, ◌+◌, List, [], ◌∷◌, if◌then◌else◌}
use Rattle.case_numbers.specs.Words.{after_name}
use Rattle.docket_rows.specs.Words.{Rows, opening_rows, setup_of}
use Rattle.row_forms.specs.declared.row.Work.{Work}
use Rattle.row_forms.specs.Words.{names_of}
use Rattle.office_texts.specs.declared.run.reply.Reply.{Reply}
use Rattle.office_texts.specs.Run.Words.{docketed_then, reply_to}
use Rattle.desk_numbers.specs.declared.said.Said.{Said}
use Rattle.desk_numbers.specs.Words.{NumbersView, given_by, no_numbers, numbered, numbers_after, passed, placed, unsaid}
use Rattle.row_forms.specs.declared.line.line.Line.{Line}
use Rattle.row_forms.specs.declared.line.line.Line.TheVariants as line
use Rattle.row_forms.specs.Line.Words.{line_read}
use Rattle.desk_numbers.specs.Strikes.Words.{CorrectionsView, is_struck}
use Rattle.desk_register.specs.declared.standing.Standing.{Standing}
use Rattle.desk_register.specs.Entries.{most_clerks, row_entries}

-- what is docketed after rows, and their numbers
pub record Run : Type 0 where
  pub docketed : Rows
  pub numbers : NumbersView

-- before the first row
abbrev pub opening_run : Standing → Run
opening_run under = record { docketed = opening_rows (setup_of under.court); numbers = no_numbers }

-- the docket's reply to what a row asks for: both name things by their places
abbrev pub reply_by_places : Standing → (docketed : Rows) → NumbersView → Work → Reply
reply_by_places under docketed numbers asked = reply_to (setup_of under.court) docketed (placed numbers.moved asked)

-- the numbers after the row of that number, counted from 1, which asks for this
abbrev pub numbers_with : Standing → Run → (number : ℕ) → Work → NumbersView
numbers_with under run number asked = numbers_after under.corrections.kept run.numbers number (given_by asked (reply_by_places under run.docketed run.numbers asked))

-- what is docketed after what a row asks for
abbrev pub docketed_with : Standing → Run → Work → Rows
docketed_with under run asked = docketed_then (setup_of under.court) run.docketed (placed run.numbers.moved asked)

-- the reply to it, with numbers
abbrev pub reply_under : Standing → Run → (number : ℕ) → Work → Reply
reply_under under run number asked = numbered (numbers_with under run number asked).moved asked (reply_by_places under run.docketed run.numbers asked)

-- after a row that asks for this
abbrev pub run_with : Standing → Run → (number : ℕ) → Work → Run
run_with under run number asked = record { docketed = docketed_with under run asked; numbers = numbers_with under run number asked }

-- after a row that is passed over
abbrev pub run_past : Standing → Run → (number : ℕ) → Run
run_past under run number = record { docketed = run.docketed; numbers = passed under.corrections.kept run.numbers number }

-- after a line that says this: what says no row is passed over
abbrev pub run_said : Standing → Run → (number : ℕ) → Line → Run
run_said under run number line.Blank = run_past under run number
run_said under run number (line.Fault cause) = run_past under run number
run_said under run number (line.Row row) = run_with under run number row.work

-- after the row of an entry, which has this number: one that is struck is passed over
abbrev pub run_entry : Standing → Run → (number : ℕ) → (entry : List ℕ) → Run
run_entry under run number entry =
    if is_struck under.corrections number then run_past under run number
    else run_said under run number (line_read most_clerks (names_of under.court) (after_name entry))

-- after the rows of entries, of which the first has this number
unfoldable pub run_after : Standing → Run → (number : ℕ) → (entries : List (List ℕ)) → Run
run_after under run number [] = run
run_after under run number (entry ∷ entries) = run_after under (run_entry under run number entry) (number + 1) entries

-- after entries: all their rows are decided under what stands, from the first on
unfoldable pub run_by : Standing → (kept : List (List ℕ)) → Run
run_by under kept = run_after under (opening_run under) 1 (row_entries kept)

-- what is docketed after entries
abbrev pub docketed_by : Standing → (kept : List (List ℕ)) → Rows
docketed_by under kept = (run_by under kept).docketed

-- what is struck from now on, and the numbers that rows keep: those that they have by now
abbrev pub corrections_then : Standing → (kept : List (List ℕ)) → (struck : List ℕ) → CorrectionsView
corrections_then under kept struck = record { struck = struck; kept = (run_by under kept).numbers.given }

-- what a correction says that comes after entries: what rows gave by then and don't keep yet
abbrev pub unsaid_by : Standing → (kept : List (List ℕ)) → List Said
unsaid_by under kept = unsaid under.corrections.kept (run_by under kept).numbers.given 1
