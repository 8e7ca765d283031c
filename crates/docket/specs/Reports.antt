-- What is written of a folder, by the entries of its journal.
use Rattle.std.specs.Prelude.{ℕ, List, ⊤, Option, Some, None, Result, Ok, Err, String, drop}
use Rattle.std.specs.declared.alloc.Global.{Global}
use Rattle.desk_register.specs.declared.standing.Standing.{Standing}
use Rattle.desk_entries.specs.Words.{StandsAfter, called_standing, cases_of, changes_by, corrections_in, rows_refused, rows_standing, rows_struck, run_by, standing_file}
use Rattle.std.specs.Io.KnownBytes.{Appends}
use Rattle.desk_program.specs.Words.{cases_text, written_rows}
use Rattle.program_runs.specs.declared.fault.OfficeFault.{OfficeFault}
use Rattle.report_program.specs.declared.asked.Asked.{Asked as ReportAsked}
use Rattle.report_program.specs.Words.{IsCalendar, IsMissing, PastView}
use Rattle.report_memo.specs.declared.asked.Asked.{Asked as MemoAsked}
use Rattle.report_memo.specs.Words.{IsMissing as IsMemoMissing, IsWritten, day_made, head_of}
use Rattle.report_texts.specs.Words.{LabelsView, labels_of}
use Rattle.docket.specs.declared.fault.Fault.{Fault}
use Rattle.docket.specs.declared.fault.Fault.TheVariants.{Input, Missing}

-- this is so of what stands after the entries
pub record AfterEntries (entries : List (List ℕ)) (IsSo : Standing → Type 0) : Type 0 where
  pub under : Standing
  pub stands : StandsAfter entries under
  pub is_so : IsSo under

-- what entries say beside what the docket has now
abbrev pub past_of : Standing → (entries : List (List ℕ)) → PastView
past_of under entries = record {
  struck = rows_struck under (run_by under entries).numbers.moved 1 (drop 1 entries);
  refused = rows_refused under (run_by under entries).numbers.moved (changes_by under entries);
  given = (run_by under entries).numbers.given;
  rows_before = (corrections_in entries).rows_before;
  corrections = (corrections_in entries).count;
}

-- what cases, deadlines and motions are called in the folder, and holidays in the court's file that stands
abbrev pub folder_labels : Standing → (entries : List (List ℕ)) → LabelsView
folder_labels under entries = labels_of (standing_file entries) (cases_of under entries).named (run_by under entries).numbers.moved (called_standing under entries)

-- a report's text, and the line that says what isn't there, by the rows that stand
abbrev pub IsReport : ReportAsked → (entries : List (List ℕ)) → (text : List ℕ) → Type 0
IsReport asked entries text = AfterEntries entries (λ under.
    IsCalendar asked under.court (folder_labels under entries) (past_of under entries) (rows_standing under entries) text)

abbrev pub IsNoReport : ReportAsked → (entries : List (List ℕ)) → (line : List ℕ) → Type 0
IsNoReport asked entries line = AfterEntries entries (λ under. IsMissing asked under.court (cases_of under entries).named (rows_standing under entries) line)

-- the head of the memo of a folder: the court that its file names, the case with what rows call it and who has it, and the day on which the
-- memo is made
abbrev pub folder_head : MemoAsked → Standing → (entries : List (List ℕ)) → List ℕ
folder_head asked under entries =
    head_of (standing_file entries) under.court (cases_of under entries).named (called_standing under entries) (rows_standing under entries) asked.case (Some (day_made under.court asked))

-- the same of the memo, below its head, as text or as a page
abbrev pub IsMemo : MemoAsked → (entries : List (List ℕ)) → (text : List ℕ) → Type 0
IsMemo asked entries text = AfterEntries entries (λ under.
    IsWritten (folder_head asked under entries) asked under.court (folder_labels under entries) (rows_standing under entries) text)

abbrev pub IsNoMemo : MemoAsked → (entries : List (List ℕ)) → (line : List ℕ) → Type 0
IsNoMemo asked entries line = AfterEntries entries (λ under.
    IsMemoMissing asked under.court (folder_labels under entries) (rows_standing under entries) line)

-- the cases that have names are written, with their numbers
abbrev pub WritesCases : (entries : List (List ℕ)) → (before after : Option (List ℕ)) → Type 0
WritesCases entries before after = AfterEntries entries (λ under. Appends before after (cases_text (cases_of under entries).named))

-- the court's file and the rows that stand are written, as clerk_office reads them
abbrev pub WritesRows : (entries : List (List ℕ)) → (before after : Option (List ℕ)) → Type 0
WritesRows entries before after = AfterEntries entries (λ under. Appends before after (written_rows under (run_by under entries).numbers.moved entries))

-- what came of a run over an input, as the program ends by it
abbrev pub EndsRun : (IsRun : Result (Option (String Global)) OfficeFault → Type 0) → Result ⊤ Fault → Type 0
EndsRun IsRun (Ok done) = IsRun (Ok None)
EndsRun IsRun (Err (Missing line)) = IsRun (Ok (Some line))
EndsRun IsRun (Err (Input fault)) = IsRun (Err fault)
EndsRun IsRun (Err other) = ⊥
