-- What is written, by what is asked for: a head, and the whole memo, or that of one case, as text or as a page; and the line where it
-- isn't there.
use Rattle.std.specs.Prelude.{◌≡◌, ℕ, ℤ, List, [], ◌++◌, Option, Some, None, codes, MatchOption}
use Rattle.office_texts.specs.Names.Words.{called_text, number_called}
use Rattle.office_texts.specs.declared.names.called.CaseCalled.{CaseCalled}
use Rattle.court_days.specs.Words.{CourtView, file_of}
use Rattle.row_forms.specs.declared.numbered.NumberedRow.{NumberedRow}
use Rattle.row_forms.specs.Words.{numbered_from}
use Rattle.program_runs.specs.Words.{Input}
use Rattle.report_memo.specs.declared.asked.Asked.{Asked}
use Rattle.report_memo.specs.Case.{IsCaseClosed, IsCaseMemo}
use Rattle.report_texts.specs.Words.{LabelsView}
use Rattle.report_memo.specs.Head.{head_of}
use Rattle.report_memo.specs.Memo.{IsMemo}
use Rattle.report_memo.specs.Page.{shown_as}

-- the line of a name that no case has
abbrev pub no_case : CaseCalled → List ℕ
no_case called = codes "docket: no case is named '" ++ called_text called ++ codes "'\n"

-- the memo of the case that is so called
abbrev pub IsCalled : CourtView → LabelsView → List NumberedRow → CaseCalled → (today : Option ℤ) → List ℕ → Type 0
IsCalled court labels rows called today text =
    MatchOption (number_called labels.cases called) ⊥ (λ case. IsCaseMemo court labels rows case today text)

-- the line of a name that no case has, or of a case that no row has opened
abbrev pub IsCalledMissing : CourtView → LabelsView → List NumberedRow → CaseCalled → List ℕ → Type 0
IsCalledMissing court labels rows called line =
    MatchOption (number_called labels.cases called) (line ≡ no_case called) (λ case. IsCaseClosed court labels rows case line)

abbrev pub IsAnswerBy : CourtView → LabelsView → List NumberedRow → Option CaseCalled → (today : Option ℤ) → List ℕ → Type 0
IsAnswerBy court labels rows None today = IsMemo court labels rows
IsAnswerBy court labels rows (Some called) today = IsCalled court labels rows called today

abbrev pub IsMissingBy : CourtView → LabelsView → List NumberedRow → Option CaseCalled → List ℕ → Type 0
IsMissingBy court labels rows None line = ⊥
IsMissingBy court labels rows (Some called) line = IsCalledMissing court labels rows called line

abbrev pub IsAnswer : Asked → CourtView → LabelsView → List NumberedRow → List ℕ → Type 0
IsAnswer asked court labels rows = IsAnswerBy court labels rows asked.case asked.today

-- a head, and below it what is asked for, as they are or as a page
pub record IsWritten (head : List ℕ) (asked : Asked) (court : CourtView) (labels : LabelsView) (rows : List NumberedRow) (written : List ℕ) : Type 0 where
  pub body : List ℕ
  pub is_answer : IsAnswer asked court labels rows body
  pub shown : written ≡ shown_as asked.html head body

abbrev pub IsMissing : Asked → CourtView → LabelsView → List NumberedRow → List ℕ → Type 0
IsMissing asked court labels rows = IsMissingBy court labels rows asked.case

-- the text of an input, in the court whose file it has: no case has a name, nothing is called anything, rows are numbered from 1, and
-- the memo is made on the day that is asked for
pub record IsAnswerOf (asked : Asked) (file : List ℕ) (labels : LabelsView) (input : Input) (text : List ℕ) : Type 0 where
  pub court : CourtView
  pub is_court : file_of court ≡ input.file
  pub is_written : IsWritten (head_of file court [] [] (numbered_from 1 input.rows) asked.case asked.today) asked court labels (numbered_from 1 input.rows) text

-- the line that says that the case isn't there, in that court
pub record IsMissingOf (asked : Asked) (labels : LabelsView) (input : Input) (line : List ℕ) : Type 0 where
  pub court : CourtView
  pub is_court : file_of court ≡ input.file
  pub is_missing : IsMissing asked court labels (numbered_from 1 input.rows) line
