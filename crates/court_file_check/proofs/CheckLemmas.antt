-- What a check finds, from its parts.
use Rattle.std.proofs.Common.{◌≡◌, ◌≢◌, ◌==◌, ℕ, true, false, List, [], ◌∷◌, length, map, Some, Result, Ok, Err, refl, sym, ap, ◌∙◌, arith}
use Rattle.toml.specs.Data.{Members}
use Rattle.court_file_text.specs.declared.fault.CourtFault.{CourtFault}
use Rattle.court_file_text.specs.declared.fault.CourtFault.TheVariants.{OutOfMemory}
use Rattle.court_file_text.specs.Words.{Fails, toml_of}
use Rattle.court_days.specs.Words.{CourtFile, desk_court_of}
use Rattle.court_file_check.specs.declared.faults.Fault.{Fault}
use Rattle.court_file_check.specs.declared.warnings.Asked.{Asked}
use Rattle.court_file_check.specs.declared.check.Checked.{Checked}
use Rattle.court_file_check.specs.declared.check.Checked.TheVariants.{NotToml, Faulty, Taken}
use Rattle.court_file_check.specs.Seen.{FaultView, seen}
use Rattle.court_file_check.specs.Faults.{faults_in, BeginsWith}
use Rattle.court_file_check.specs.Check.{AreAllFaults, IsDocumentCheck, IsCheckOf}
use Rattle.court_file_check.proofs.ReadLemmas.{fails_is}
use Rattle.court_file_check.proofs.BeginLemmas.{faults_begin}

pub none_seen : (faults : List Fault) → (length faults == 0) ≡ true → map seen faults ≡ []
none_seen [] h = refl
none_seen (f ∷ faults) h = absurd (grind (arith, h))

pub some_seen : (faults : List Fault) → (length faults == 0) ≡ false → map seen faults ≢ []
some_seen [] h = absurd (cc)
some_seen (f ∷ faults) h = λ none. cc

-- reading a document without faults gives none
pub no_fault : (document : Members) (e : CourtFault) → faults_in document ≡ [] → Fails e (desk_court_of document) → e ≢ OutOfMemory → ⊥
no_fault document e none fails there = go (desk_court_of document) (fails_is e (desk_court_of document) fails there) (faults_begin document) where
  go : (read : Result CourtFile CourtFault) → read ≡ Err e → BeginsWith read (faults_in document) → ⊥
  go (Ok file) is begins = cc
  go (Err other) is begins = let first = begins.0 in let rest = begins.1 in let are : faults_in document ≡ first ∷ rest = begins.2 in cc

pub all_faults : (document : Members) (faults : List FaultView) → faults ≡ faults_in document → faults ≢ [] → AreAllFaults document faults
all_faults document faults all some = go (desk_court_of document) refl (faults_begin document) where
  go : (read : Result CourtFile CourtFault) → desk_court_of document ≡ read → BeginsWith read (faults_in document) → AreAllFaults document faults
  go (Ok file) is none = absurd (some (all ∙ none))
  go (Err e) is begins = record { all = all; first = begins.0; rest = begins.1; are = all ∙ begins.2; of_court = is ∙ ap Err (sym begins.3) }

pub of_document : (asked : Asked) (bytes : List ℕ) (document : Members) (checked : Checked) → toml_of bytes ≡ Some document → IsDocumentCheck asked bytes document checked → IsCheckOf asked bytes checked
of_document asked bytes document (NotToml error) read check = absurd check
of_document asked bytes document (Faulty file faults) read check = record { document = document; read = read; check = check }
of_document asked bytes document (Taken file warnings) read check = record { document = document; read = read; check = check }
