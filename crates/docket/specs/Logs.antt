-- The log of a folder.
use Rattle.std.specs.Prelude.{◌≡◌, ◌<◌, ◌||◌, ℕ, Bool, List, ◌++◌, Option, None, Some, codes, is_some, length}
use Rattle.std.specs.Fmt.{decimal}
use Rattle.std.specs.Io.KnownBytes.{Appends}
use Rattle.case_numbers.specs.Words.{NameView, number_of}
use Rattle.court_days.specs.Words.{CourtView}
use Rattle.row_forms.specs.Words.{names_of}
use Rattle.office_texts.specs.declared.names.called.CaseCalled.{CaseCalled}
use Rattle.office_texts.specs.declared.names.called.CaseCalled.TheVariants.{Name, Number}
use Rattle.desk_journal.specs.Words.{StampView}
use Rattle.desk_entries.specs.Words.{SaysCourt, cases_of, standing_file}
use Rattle.desk_program.specs.declared.log.LogChoice.{LogChoice}
use Rattle.desk_program.specs.Words.{log_text}
use Rattle.program_words.specs.declared.task.LogAsked.{LogAsked}
use Rattle.docket.specs.Reports.{AfterEntries}
use Rattle.docket.specs.Times.{IsChoice}

-- what is said where no case has the name
abbrev pub no_case : NameView → List ℕ
no_case name = codes "docket: no case is named '" ++ name.shown ++ codes "'\n"

-- the number of a case that is so called after entries: a name is that of a case of their docket
abbrev pub IsCase : (entries : List (List ℕ)) → CaseCalled → (case : ℕ) → Type 0
IsCase entries (Number number) case = case ≡ number
IsCase entries (Name name) case = AfterEntries entries (λ under. number_of (cases_of under entries).named name.key ≡ Some case)

-- one row or one case is asked for
abbrev pub asks_of_one : LogAsked → Bool
asks_of_one asked = is_some asked.row || is_some asked.case

-- what is said where no entry of it is written
abbrev pub none_logged : (row : Option ℕ) → List ℕ
none_logged (Some row) = codes "docket: the log has no such entry of row " ++ decimal row ++ codes "\n"
none_logged None = codes "docket: the log has no such entry of that case\n"

abbrev pub IsCaseIfAsked : (entries : List (List ℕ)) → Option CaseCalled → (case : Option ℕ) → Type 0
IsCaseIfAsked entries None case = case ≡ None
IsCaseIfAsked entries (Some called) case = (number : ℕ) × (case ≡ Some number) × IsCase entries called number

-- The entries are written that are asked for, by the court that stands after them all.
pub record LogsEntries (asked : LogAsked) (case : Option ℕ) (entries : List (List ℕ)) (stamps : List StampView) (before after : Option (List ℕ)) : Type 0 where
  pub court : CourtView
  pub says : SaysCourt (standing_file entries) court
  pub choice : LogChoice
  pub is : IsChoice court.clock asked case choice
  pub written : Appends before after (log_text (names_of court) choice entries stamps)

-- an entry is written
pub record HasLogged (asked : LogAsked) (case : Option ℕ) (entries : List (List ℕ)) (stamps : List StampView) : Type 0 where
  pub court : CourtView
  pub says : SaysCourt (standing_file entries) court
  pub choice : LogChoice
  pub is : IsChoice court.clock asked case choice
  pub some : 0 < length (log_text (names_of court) choice entries stamps)
