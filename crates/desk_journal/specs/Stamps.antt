-- Who entered an entry, and when: what stands before the entry in its frame.
use Rattle.std.specs.Prelude.{◌≡◌, ◌≤◌, ◌<◌, ◌+◌, ◌^◌, ℕ, List, [], ◌∷◌, ◌++◌, length, take, drop, All}
use Rattle.std.specs.Int.{w64, from_be_bytes, to_be_bytes}

-- the time, as the seconds of UTC since 1970-01-01T00:00:00, and the account, as text
pub record StampView : Type 0 where
  pub time : ℕ
  pub account : List ℕ

-- the time fits eight bytes, and the account has at most 200
abbrev pub IsStamp : StampView → Type 0
IsStamp stamp = (stamp.time < 2 ^ 64) × (length stamp.account ≤ 200)

-- A stamp as it is written: one byte that says how many bytes follow; the time as eight bytes, the highest first; the account.
abbrev pub stamp_bytes : StampView → List ℕ
stamp_bytes stamp = (8 + length stamp.account) ∷ (to_be_bytes w64 stamp.time ++ stamp.account)

-- what a frame holds: the stamp, and then the entry
abbrev pub content_of : StampView → List ℕ → List ℕ
content_of stamp entry = stamp_bytes stamp ++ entry

-- how many bytes the stamp takes with which a content begins: its first byte, and as many as that says
abbrev pub stamp_size : List ℕ → ℕ
stamp_size [] = 0
stamp_size (n ∷ rest) = n + 1

-- a content begins with a whole stamp, which has a time and an account of at most 200 bytes
abbrev pub HasStamp : List ℕ → Type 0
HasStamp content = (9 ≤ stamp_size content) × (stamp_size content ≤ 209) × (stamp_size content ≤ length content)

-- the entry of a content: all after its stamp
abbrev pub entry_in : List ℕ → List ℕ
entry_in content = drop (stamp_size content) content

-- eight bytes as a time, the highest first
unfoldable pub time_of : List ℕ → ℕ
time_of bytes = from_be_bytes w64 bytes

-- the stamp of a content
abbrev pub stamp_in : List ℕ → StampView
stamp_in content = record { time = time_of (take 8 (drop 1 content)); account = drop 9 (take (stamp_size content) content) }

-- the time of the last of these stamps, and `earlier` where there is none
abbrev pub time_after : ℕ → List StampView → ℕ
time_after earlier [] = earlier
time_after earlier (stamp ∷ stamps) = time_after stamp.time stamps

-- none of these times is before the one that comes before it, and the first isn't before `earlier`
abbrev pub IsInOrder : ℕ → List StampView → Type 0
IsInOrder earlier [] = Unit {0}
IsInOrder earlier (stamp ∷ stamps) = (earlier ≤ stamp.time) × IsInOrder stamp.time stamps

-- stamps were added after others: each is of this account, and times never go back
pub record AddsStamps (account : List ℕ) (before after : List StampView) : Type 0 where
  pub more : List StampView
  pub parts : after ≡ before ++ more
  pub accounts : All (λ stamp. stamp.account ≡ account) more
  pub order : IsInOrder (time_after 0 before) more
