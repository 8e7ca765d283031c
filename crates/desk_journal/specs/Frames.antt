-- What a journal's file is: frames, each a latch and an entry with its stamp, and then a shut latch.
use Rattle.std.specs.Prelude.{◌≡◌, ◌≤◌, ◌⊎◌, ℕ, List, [], ◌∷◌, ◌++◌, codes, length, map, All}
use Rattle.std.specs.Int.{w32, from_be_bytes, to_be_bytes}
use Rattle.sha2.specs.Sha256.{sha256}
use Rattle.desk_journal.specs.Stamps.{HasStamp, StampView, content_of, entry_in, stamp_in, time_after}

-- A latch of two bytes; how many entries were durable before the entry's batch, and how long the content is, each as four bytes; and the
-- content: the stamp and the entry. Between the length and the content is the checksum.
pub record Frame : Type 0 where
  pub latch : ℕ
  pub second : ℕ
  pub durable : List ℕ
  pub size : List ℕ
  pub content : List ℕ

-- four bytes as a number, the highest first
unfoldable pub number_of : List ℕ → ℕ
number_of bytes = from_be_bytes w32 bytes

-- the two bytes of a latch that is shut: `--`
abbrev pub AreShut : (latch second : ℕ) → Type 0
AreShut latch second = (latch ≡ 45) × (second ≡ 45)

-- the numbers have their four bytes, and the content has its length
pub record IsSized (f : Frame) : Type 0 where
  pub four : length f.durable ≡ 4
  pub four_more : length f.size ≡ 4
  pub long : number_of f.size ≡ length f.content

-- the latch isn't shut, the parts have their lengths, and the content begins with a whole stamp
pub record IsFrame (f : Frame) : Type 0 where
  pub opened : AreShut f.latch f.second → ⊥
  pub sized : IsSized f
  pub stamped : HasStamp f.content

-- The frame of a content, where this number of entries is durable before its batch. Its latch is open: `++`.
unfoldable pub frame_of : ℕ → List ℕ → Frame
frame_of durable content = record { latch = 43; second = 43; durable = to_be_bytes w32 durable; size = to_be_bytes w32 (length content); content = content }

-- the frame of an entry with its stamp
abbrev pub framed : ℕ → StampView → List ℕ → Frame
framed durable stamp entry = frame_of durable (content_of stamp entry)

-- SHA-256 of the checksum before it, the two numbers and the content
unfoldable pub checksum : List ℕ → Frame → List ℕ
checksum previous f = sha256 (previous ++ f.durable ++ f.size ++ f.content)

-- what counts as the checksum before the first entry: the SHA-256 of the format's name and version
unfoldable pub first_checksum : List ℕ
first_checksum = sha256 (codes "durable journal, version 3")

-- the same of the two formats before this one
unfoldable pub first_format_checksum : List ℕ
first_format_checksum = sha256 (codes "durable journal, version 1")

unfoldable pub second_format_checksum : List ℕ
second_format_checksum = sha256 (codes "durable journal, version 2")

-- a frame as it is written after its latch, where the entry before it has that checksum
abbrev pub packed : List ℕ → Frame → List ℕ
packed previous f = f.durable ++ (f.size ++ (checksum previous f ++ f.content))

-- frames in their order, each after its latch
abbrev pub frames : List ℕ → List Frame → List ℕ
frames previous [] = []
frames previous (f ∷ fs) = f.latch ∷ f.second ∷ (packed previous f ++ frames (checksum previous f) fs)

-- the checksum of the last of them
abbrev pub last_checksum : List ℕ → List Frame → List ℕ
last_checksum previous [] = previous
last_checksum previous (f ∷ fs) = last_checksum (checksum previous f) fs

-- how many bytes the content of the last of them has, and `earlier` where there is none
abbrev pub size_of_last : ℕ → List Frame → ℕ
size_of_last earlier [] = earlier
size_of_last earlier (f ∷ fs) = size_of_last (length f.content) fs

-- the entries of frames
abbrev pub entries_of : List Frame → List (List ℕ)
entries_of fs = map (λ f. entry_in f.content) fs

-- the stamps of frames
abbrev pub stamps_of : List Frame → List StampView
stamps_of fs = map (λ f. stamp_in f.content) fs

-- the time of the last of them, and 0 where there is none
abbrev pub last_time : List Frame → ℕ
last_time fs = time_after 0 (stamps_of fs)

-- a shut latch is here, whatever comes after it
abbrev pub IsShut : List ℕ → Type 0
IsShut [] = ⊥
IsShut (latch ∷ []) = ⊥
IsShut (latch ∷ second ∷ rest) = AreShut latch second

-- the file is these frames, and then a shut latch
pub record IsFileOf (file : List ℕ) (fs : List Frame) (end : List ℕ) : Type 0 where
  pub whole : All IsFrame fs
  pub parts : file ≡ frames first_checksum fs ++ end
  pub shut : IsShut end

-- a journal of entries, whatever comes after its shut latch
pub record IsJournal (file : List ℕ) (entries : List (List ℕ)) : Type 0 where
  pub fs : List Frame
  pub end : List ℕ
  pub is : IsFileOf file fs end
  pub same : entries ≡ entries_of fs

-- a file of at most two bytes, which may be left of one that was being made: it has no entries
abbrev pub IsUnbegun : List ℕ → List (List ℕ) → Type 0
IsUnbegun file entries = (length file ≤ 2) × (entries ≡ [])

-- The entries for which a file stands. A longer file without a shut latch after its frames stands for none.
abbrev pub StandsFor : List ℕ → List (List ℕ) → Type 0
StandsFor file entries = IsJournal file entries ⊎ IsUnbegun file entries

-- a journal of these entries, entered with these stamps, one for each
pub record IsStampedJournal (file : List ℕ) (entries : List (List ℕ)) (stamps : List StampView) : Type 0 where
  pub fs : List Frame
  pub end : List ℕ
  pub is : IsFileOf file fs end
  pub same : entries ≡ entries_of fs
  pub stamped : stamps ≡ stamps_of fs

-- The entries for which a file stands, and their stamps. A file of at most two bytes has none of either.
abbrev pub StandsStamped : List ℕ → List (List ℕ) → List StampView → Type 0
StandsStamped file entries stamps = IsStampedJournal file entries stamps ⊎ (IsUnbegun file entries × (stamps ≡ []))

-- the stamps of the entries for which a file stands
abbrev pub HasStamps : List ℕ → List StampView → Type 0
HasStamps file stamps = (entries : List (List ℕ)) × StandsStamped file entries stamps

-- a file has at most one list of stamps
abbrev pub HaveOneListOfStamps : Type 0
HaveOneListOfStamps = (file : List ℕ) (some others : List StampView) → HasStamps file some → HasStamps file others → some ≡ others

-- a file stands for at most one list of entries
abbrev pub StandForOneList : Type 0
StandForOneList = (file : List ℕ) (some others : List (List ℕ)) → StandsFor file some → StandsFor file others → some ≡ others
