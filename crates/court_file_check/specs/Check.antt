-- What a check finds in the bytes of a court's file.
use Rattle.std.specs.Prelude.{◌≡◌, ℕ, List, ◌∷◌, Some, Ok, Err, map}
use Rattle.toml.specs.Data.{Members}
use Rattle.toml.specs.View.{table_view}
use Rattle.court_file_text.specs.declared.fault.CourtFault.TheVariants.{NotToml as BadToml}
use Rattle.court_file_text.specs.Words.{toml_of}
use Rattle.court_days.specs.Words.{CourtFile, desk_court_in, desk_court_of}
use Rattle.court_file_check.specs.declared.warnings.Asked.{Asked}
use Rattle.court_file_check.specs.declared.check.Checked.{Checked}
use Rattle.court_file_check.specs.declared.check.Checked.TheVariants.{NotToml, Faulty, Taken}
use Rattle.court_file_check.specs.Seen.{FaultView, seen}
use Rattle.court_file_check.specs.Faults.{faults_in}
use Rattle.court_file_check.specs.AreWarnings.{AreWarnings}

-- the faults of a document are all of them, and the first is the one that the court's program gives
pub record AreAllFaults (document : Members) (faults : List FaultView) : Type 0 where
  pub all : faults ≡ faults_in document
  pub first : FaultView
  pub rest : List FaultView
  pub are : faults ≡ first ∷ rest
  pub of_court : desk_court_of document ≡ Err first.fault

-- the court's program takes the document, and this is what is said of it
pub record IsTaken (asked : Asked) (document : Members) (IsTold : CourtFile → Type 0) : Type 0 where
  pub file : CourtFile
  pub taken : desk_court_of document ≡ Ok file
  pub told : IsTold file

-- what is found in a document
abbrev pub IsDocumentCheck : Asked → (text : List ℕ) → Members → Checked → Type 0
IsDocumentCheck asked text document (NotToml error) = ⊥
IsDocumentCheck asked text document (Faulty file faults) = (table_view file ≡ document) × AreAllFaults document (map seen faults.items)
IsDocumentCheck asked text document (Taken file warnings) = (table_view file ≡ document) × IsTaken asked document (λ said. AreWarnings asked text document said warnings)

-- what is found in the document that the bytes are
pub record IsOfDocument (asked : Asked) (bytes : List ℕ) (checked : Checked) : Type 0 where
  pub document : Members
  pub read : toml_of bytes ≡ Some document
  pub check : IsDocumentCheck asked bytes document checked

-- What is found in bytes: that they are no TOML, where the court's program says so too; or what is found in the document.
abbrev pub IsCheckOf : Asked → List ℕ → Checked → Type 0
IsCheckOf asked bytes (NotToml error) = desk_court_in bytes ≡ Err BadToml
IsCheckOf asked bytes (Faulty file faults) = IsOfDocument asked bytes (Faulty file faults)
IsCheckOf asked bytes (Taken file warnings) = IsOfDocument asked bytes (Taken file warnings)
