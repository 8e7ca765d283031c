-- What damage can make of a journal's file.
use Rattle.std.specs.Prelude.{◌≡◌, ◌≢◌, ◌⊎◌, ℕ, All, List, [], ◌∷◌, ◌++◌}
use Rattle.sha2.specs.Sha256.{sha256}
use Rattle.desk_journal.specs.Frames.{Frame, IsFrame, StandsFor, StandsStamped, entries_of, first_checksum, frames, stamps_of}
use Rattle.desk_journal.specs.Stamps.{StampView}

-- a frame's latch is `++`
abbrev pub IsOpen : Frame → Type 0
IsOpen f = (f.latch ≡ 43) × (f.second ≡ 43)

-- at one place each file has a byte of its own, and all others are the same
pub record DifferInOne (file other : List ℕ) : Type 0 where
  pub front : List ℕ
  pub byte : ℕ
  pub changed : ℕ
  pub tail : List ℕ
  pub file_is : file ≡ front ++ byte ∷ tail
  pub other_is : other ≡ front ++ changed ∷ tail

-- a list begins with another
abbrev pub BeginsWithEntries : List (List ℕ) → List (List ℕ) → Type 0
BeginsWithEntries list first = (more : List (List ℕ)) × (list ≡ first ++ more)

-- two texts have the same SHA-256
pub record Collide : Type 0 where
  pub one : List ℕ
  pub another : List ℕ
  pub differ : one ≢ another
  pub same : sha256 one ≡ sha256 another

-- the file of a journal as a session leaves it: each latch is open, and nothing comes after the shut one
pub record IsSettled (file : List ℕ) (entries : List (List ℕ)) : Type 0 where
  pub fs : List Frame
  pub whole : All IsFrame fs
  pub latches : All IsOpen fs
  pub parts : file ≡ frames first_checksum fs ++ 45 ∷ 45 ∷ []
  pub same : entries ≡ entries_of fs

-- Where one byte of such a file is changed, and the file stands for entries, it stands for the same, unless two texts collide. So no
-- byte that changes hides an entry.
abbrev pub NoByteHidesAnEntry : Type 0
NoByteHidesAnEntry = (file other : List ℕ) (entries others : List (List ℕ)) → IsSettled file entries → StandsFor other others → DifferInOne file other
    → (others ≡ entries) ⊎ Collide

-- the same, where the entries have these stamps
abbrev pub IsSettledWith : List ℕ → List (List ℕ) → List StampView → Type 0
IsSettledWith file entries stamps = (settled : IsSettled file entries) × (stamps ≡ stamps_of settled.fs)

-- Where one byte of such a file is changed, and the file stands for entries with stamps, they are the same entries with the same stamps,
-- unless two texts collide. So no byte that changes says that an entry is another's, or of another time.
abbrev pub NoByteChangesAStamp : Type 0
NoByteChangesAStamp = (file other : List ℕ) (entries others : List (List ℕ)) (stamps other_stamps : List StampView) → IsSettledWith file entries stamps
    → StandsStamped other others other_stamps → DifferInOne file other → ((others ≡ entries) × (other_stamps ≡ stamps)) ⊎ Collide

-- Where one byte of a journal's file is changed, and both files stand for entries, one of the lists begins with the other,
-- unless two texts collide. So no entry is ever read as another.
abbrev pub NoEntryIsAnother : Type 0
NoEntryIsAnother = (file other : List ℕ) (entries others : List (List ℕ)) → StandsFor file entries → StandsFor other others → DifferInOne file other
    → (BeginsWithEntries entries others ⊎ BeginsWithEntries others entries) ⊎ Collide

-- A file that was cut, and stands for entries, stands for the first of those that it had.
abbrev pub CutFilesKeepTheFirst : Type 0
CutFilesKeepTheFirst = (file tail : List ℕ) (entries others : List (List ℕ)) → StandsFor (file ++ tail) entries → StandsFor file others → BeginsWithEntries entries others
