-- The journal's faults, as those of the desk's tasks.
use Rattle.std.proofs.Common.{◌≡◌, ◌⊎◌, inl, inr, ℕ, Result, Ok, Err, ap, refl, subst}
use Rattle.desk_journal.specs.Words.{HasWriteFault}
use Rattle.desk_journal.specs.declared.fault.JournalFault.{JournalFault}
use Rattle.desk_journal.specs.declared.fault.JournalFault.TheVariants as journal
use Rattle.desk_program.specs.declared.faults.beginning.BeginFault.TheVariants.{Taken}
use Rattle.desk_program.specs.declared.faults.correcting.CorrectionFault.{CorrectionFault}
use Rattle.desk_program.specs.declared.faults.correcting.CorrectionFault.TheVariants.{Differs}
use Rattle.desk_program.specs.declared.faults.correcting.StrikingFault.{StrikingFault}
use Rattle.desk_program.specs.declared.faults.correcting.StrikingFault.TheVariants.{Unstruck, Untaken}
use Rattle.desk_program.specs.declared.faults.opening.OpenFault.TheVariants.{NoJournal}
use Rattle.desk_program.specs.Faults.{unbegun_journal, unopened_journal, untaken_journal}

-- a result's fault, or another where it has none
abbrev fault_of : {A F : Type 0} → F → Result A F → F
fault_of otherwise (Ok a) = otherwise
fault_of otherwise (Err fault) = fault

pub same_fault : {A F : Type 0} (a b : F) → ◌≡◌ {A = Result A F} (Err a) (Err b) → a ≡ b
same_fault a b is = ap (fault_of a) is

-- the same of a correction that isn't taken
abbrev untaken_of : CorrectionFault → StrikingFault → CorrectionFault
untaken_of otherwise (Unstruck fault) = otherwise
untaken_of otherwise (Untaken fault) = fault

pub same_untaken : {A : Type 0} (a b : CorrectionFault) → ◌≡◌ {A = Result A StrikingFault} (Err (Untaken a)) (Err (Untaken b)) → a ≡ b
same_untaken a b is = ap (untaken_of a) (same_fault (Untaken a) (Untaken b) is)

-- a docket of which there is no journal: its file has no entries
pub no_entries : (fault : JournalFault) → unopened_journal fault ≡ NoJournal → fault ≡ journal.NoEntries
no_entries (journal.Damaged number) is = cc is
no_entries journal.Older is = cc is
no_entries journal.Full is = cc is
no_entries journal.NoEntries is = refl
no_entries journal.Taken is = cc is
no_entries journal.Changed is = cc is
no_entries journal.Read is = cc is
no_entries journal.Write is = cc is
no_entries journal.Sync is = cc is
no_entries journal.OutOfMemory is = cc is

-- one that is taken: its file has some
pub has_entries : (fault : JournalFault) → unbegun_journal fault ≡ Taken → fault ≡ journal.Taken
has_entries (journal.Damaged number) is = cc is
has_entries journal.Older is = cc is
has_entries journal.Full is = cc is
has_entries journal.NoEntries is = cc is
has_entries journal.Taken is = refl
has_entries journal.Changed is = cc is
has_entries journal.Read is = cc is
has_entries journal.Write is = cc is
has_entries journal.Sync is = cc is
has_entries journal.OutOfMemory is = cc is

-- what a fault of the journal becomes isn't that answers differ
pub never_differs : (fault : JournalFault) (count : ℕ) → untaken_journal fault ≡ Differs count → ⊥
never_differs (journal.Damaged number) count is = cc is
never_differs journal.Older count is = cc is
never_differs journal.Full count is = cc is
never_differs journal.NoEntries count is = cc is
never_differs journal.Taken count is = cc is
never_differs journal.Changed count is = cc is
never_differs journal.Read count is = cc is
never_differs journal.Write count is = cc is
never_differs journal.Sync count is = cc is
never_differs journal.OutOfMemory count is = cc is

-- What is so unless a write or a sync has failed is so at another fault.
pub unless_written : (fault other : JournalFault) (So : Type 0) → fault ≡ other → (HasWriteFault other → ⊥) → So ⊎ HasWriteFault fault → So
unless_written fault other So is never (inl so) = so
unless_written fault other So is never (inr failed) = absurd (never (subst HasWriteFault is failed))
