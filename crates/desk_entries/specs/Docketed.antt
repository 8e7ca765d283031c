-- A court and its docket, made of a journal's entries, or why they make none.
use Rattle.std.specs.Prelude.{◌≡◌, ◌<◌, ◌+◌, ◌⊎◌, ℕ, false, List, [], ◌∷◌, ◌++◌, length, Option, None, Some, Err}
use Rattle.court_days.specs.Words.{desk_court_in}
use Rattle.desk_entries.specs.declared.docketed.Docketed.{Docketed}
use Rattle.desk_entries.specs.declared.fault.HistoryFault.{HistoryFault}
use Rattle.desk_entries.specs.declared.fault.HistoryFault.TheVariants.{Court, NoCourt, Other, OutOfMemory, Strike}
use Rattle.desk_register.specs.declared.standing.Standing.{Standing}
use Rattle.desk_register.specs.Words.{IsHistory, IsReadyAt, Note, SaysNumbers, StandsAfter, can_restore, can_strike, court_file, follows, next_number, note_in, row_restored, row_struck, standing_file}

-- this is what stands after the entries, and the docket is that of their rows
pub record IsDocketed (docketed : Docketed) (entries : List (List ℕ)) : Type 0 where
  pub standing : StandsAfter entries docketed.standing
  pub stands : IsReadyAt docketed.standing docketed.register entries

-- why a file is no court's, which is in the entry of that number
abbrev pub IsBadFile : (file : List ℕ) → (number : ℕ) → HistoryFault → Type 0
IsBadFile file number NoCourt = ⊥
IsBadFile file number (Court n cause) = (n ≡ number) × (desk_court_in file ≡ Err cause)
IsBadFile file number (Strike n) = ⊥
IsBadFile file number (Other n) = ⊥
IsBadFile file number OutOfMemory = Unit {0}

-- an entry says other numbers than rows gave
abbrev pub SaysOthers : (before : List (List ℕ)) → (entry : List ℕ) → Type 0
SaysOthers before entry = (under : Standing) × StandsAfter before under × (SaysNumbers under before entry → ⊥)

-- a strike is of a row that can't be struck, or a restore of one that isn't
abbrev pub CannotBe : Note → (before : List (List ℕ)) → Type 0
CannotBe (court_file file) before = ⊥
CannotBe (row_struck struck) before = can_strike before struck ≡ false
CannotBe (row_restored restored) before = can_restore before restored ≡ false

-- an entry is a note that can't be, or says other numbers
abbrev pub IsBadNote : Option Note → (before : List (List ℕ)) → (entry : List ℕ) → Type 0
IsBadNote None before entry = ⊥
IsBadNote (Some note) before entry = CannotBe note before ⊎ SaysOthers before entry

-- a row gets another answer than its entry has, under what stands after these
abbrev pub GetsOtherAnswer : (before : List (List ℕ)) → (entry : List ℕ) → Type 0
GetsOtherAnswer before entry = (under : Standing) × StandsAfter before under × (follows under before entry → ⊥)

-- what is wrong with an entry that comes after these: a court's file with a fault, a bad note, or a row with another answer
abbrev pub IsFaultyEntry : (before : List (List ℕ)) → (entry : List ℕ) → HistoryFault → Type 0
IsFaultyEntry before entry NoCourt = ⊥
IsFaultyEntry before entry (Court number cause) = (number ≡ length before + 1) × (desk_court_in (standing_file (before ++ entry ∷ [])) ≡ Err cause)
IsFaultyEntry before entry (Strike number) = (number ≡ length before + 1) × IsBadNote (note_in entry) before entry
IsFaultyEntry before entry (Other number) = (number ≡ next_number before) × (note_in entry ≡ None) × GetsOtherAnswer before entry
IsFaultyEntry before entry OutOfMemory = Unit {0}

-- an entry is faulty that comes after some of which this is so
pub record HasFaultyEntry (So : List (List ℕ) → Type 0) (entries : List (List ℕ)) (fault : HistoryFault) : Type 0 where
  pub before : List (List ℕ)
  pub entry : List ℕ
  pub after : List (List ℕ)
  pub parts : entries ≡ before ++ entry ∷ after
  pub so : So before
  pub faulty : IsFaultyEntry before entry fault

-- why entries make no docket, where this is so of those before the one that is faulty
abbrev pub HasFault : (So : List (List ℕ) → Type 0) → List (List ℕ) → HistoryFault → Type 0
HasFault So entries NoCourt = entries ≡ []
HasFault So entries (Court number cause) = HasFaultyEntry So entries (Court number cause)
HasFault So entries (Strike number) = HasFaultyEntry So entries (Strike number)
HasFault So entries (Other number) = HasFaultyEntry So entries (Other number)
HasFault So entries OutOfMemory = Unit {0}

-- why they make no docket, whatever those before the one that is faulty are
abbrev pub HasDocketFault : List (List ℕ) → HistoryFault → Type 0
HasDocketFault entries fault = HasFault (λ before. Unit {0}) entries fault

-- entries are a history, if there are any
abbrev pub AreHistory : List (List ℕ) → Type 0
AreHistory entries = 0 < length entries → IsHistory entries

-- why they are no history: those before the one that is faulty are
abbrev pub HasHistoryFault : List (List ℕ) → HistoryFault → Type 0
HasHistoryFault entries fault = HasFault AreHistory entries fault
