-- One page of a case: what its sheet has, and its last entries.
use Rattle.std.specs.Prelude.{◌≡◌, ℕ, false, List, [], ◌++◌, Option, None, Some}
use Rattle.court_days.specs.Words.{CourtView}
use Rattle.row_forms.specs.Words.{names_of}
use Rattle.office_texts.specs.declared.names.called.CaseCalled.{CaseCalled}
use Rattle.desk_journal.specs.Words.{StampView}
use Rattle.desk_entries.specs.Words.{SaysCourt, standing_file}
use Rattle.desk_program.specs.declared.log.LogChoice.{LogChoice}
use Rattle.desk_program.specs.Words.{last_log_text}
use Rattle.report_program.specs.declared.asked.Asked.{Asked}
use Rattle.docket.specs.Logs.{IsCase}
use Rattle.docket.specs.Reports.{IsReport}

-- the entries of a case, as text
abbrev pub of_case : (case : ℕ) → LogChoice
of_case case = record { row = None; case = Some case; by = None; from = None; to = None; json = false }

-- the last ten of them, by the court that stands after all entries
pub record IsLastEntries (case : ℕ) (entries : List (List ℕ)) (stamps : List StampView) (text : List ℕ) : Type 0 where
  pub court : CourtView
  pub says : SaysCourt (standing_file entries) court
  pub is : text ≡ last_log_text (names_of court) (of_case case) 10 entries stamps

-- those of the case that is so called
pub record IsLastCalled (called : CaseCalled) (entries : List (List ℕ)) (stamps : List StampView) (text : List ℕ) : Type 0 where
  pub case : ℕ
  pub of : IsCase entries called case
  pub last : IsLastEntries case entries stamps text

abbrev pub IsLastOf : Option CaseCalled → (entries : List (List ℕ)) → (stamps : List StampView) → (text : List ℕ) → Type 0
IsLastOf (Some called) entries stamps text = IsLastCalled called entries stamps text
IsLastOf None entries stamps text = text ≡ []

-- a page with its last entries after it
pub record IsWithEntries (called : Option CaseCalled) (entries : List (List ℕ)) (stamps : List StampView) (page text : List ℕ) : Type 0 where
  pub log : List ℕ
  pub last : IsLastOf called entries stamps log
  pub is : text ≡ page ++ log

-- the page of the case that is asked for
pub record IsCasePage (asked : Asked) (entries : List (List ℕ)) (stamps : List StampView) (text : List ℕ) : Type 0 where
  pub page : List ℕ
  pub report : IsReport asked entries page
  pub whole : IsWithEntries asked.case entries stamps page text
