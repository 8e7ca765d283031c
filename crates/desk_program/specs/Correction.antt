-- A correction: a strike, a restore, or another court's file. What is written of it, and when it is taken.
use Rattle.std.specs.Prelude.{◌≡◌, ◌≢◌, ℕ, Bool, false, List, [], ◌++◌, Option, codes, length}
use Rattle.std.specs.Io.KnownBytes.{Appends}
use Rattle.docket_shifts.specs.Words.{ShownRows, shifts}
use Rattle.desk_register.specs.declared.standing.Standing.{Standing}
use Rattle.desk_entries.specs.Words.{cases_of, docketed_by, entry_at, run_by}
use Rattle.desk_program.specs.declared.entry_kind.EntryKind.{EntryKind}
use Rattle.desk_program.specs.declared.entry_kind.EntryKind.TheVariants.{CourtFile, Restore, Row, Strike}
use Rattle.desk_program.specs.Changed.{changes_between}
use Rattle.desk_program.specs.ChangedText.{changes_text}
use Rattle.desk_program.specs.Leave.{asking_between}
use Rattle.desk_program.specs.LogText.{indented, kind_text}

-- the docket of entries under what stands, as it is shown
abbrev pub shown_at : Standing → (entries : List (List ℕ)) → ShownRows
shown_at under entries = record { court = under.court; docketed = docketed_by under entries; moved = (run_by under entries).numbers.moved; named = (cases_of under entries).named }

-- `strike of row 7:`, and the row's entry with two blanks before each line and no control characters
abbrev pub row_head : (entries : List (List ℕ)) → EntryKind → (row : ℕ) → List ℕ
row_head entries kind row = kind_text kind row ++ codes ":\n" ++ indented (entry_at entries row)

-- what is written first: the row that is struck or restored
abbrev pub head_text : (entries : List (List ℕ)) → EntryKind → List ℕ
head_text entries (Strike row) = row_head entries (Strike row) row
head_text entries (Restore row) = row_head entries (Restore row) row
head_text entries CourtFile = []
head_text entries Row = []

-- What is written of a correction: the row that it is about, each row that would be answered otherwise than now, and each case, deadline
-- and hearing that would be another than now.
abbrev pub correction_text : (now after : Standing) → (entries : List (List ℕ)) → EntryKind → List ℕ
correction_text now after entries kind = head_text entries kind ++ changes_text (changes_between now after entries) ++ shifts (shown_at now entries) (shown_at after entries)

-- It is written. Without leave no row is answered otherwise than now, but for one that is restored and would be refused; that cases,
-- deadlines and hearings change needs no leave.
pub record IsListed (now after : Standing) (entries : List (List ℕ)) (kind : EntryKind) (accept : Bool) (old new : Option (List ℕ)) : Type 0 where
  pub written : Appends old new (correction_text now after entries kind)
  pub without_leave : accept ≡ false → asking_between now after entries ≡ []

-- It is written and not taken, since for this many rows leave is asked.
pub record IsOnlyListed (now after : Standing) (entries : List (List ℕ)) (kind : EntryKind) (count : ℕ) (old new : Option (List ℕ)) : Type 0 where
  pub written : Appends old new (correction_text now after entries kind)
  pub count_is : count ≡ length (asking_between now after entries)
  pub some : asking_between now after entries ≢ []
