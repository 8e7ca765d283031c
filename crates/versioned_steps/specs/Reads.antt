-- A part that was read from a history, and what becomes of it as the history grows.
use Rattle.std.specs.Prelude.{◌≡◌, ℕ, ◌<◌, ◌≤◌, nat_lt, if◌then◌else◌, Option, Some, None, List, [], ◌∷◌, ◌++◌, length, take, All, map}
use Rattle.versioned_steps.specs.Rules.{Rules}
use Rattle.versioned_steps.specs.History.{value_of, version_of}
use Rattle.versioned_steps.specs.declared.entry.Entry.{Entry}
use Rattle.versioned_steps.specs.declared.stale.Stale.{Stale}

-- one read: the part, its value and version then, and the length of the history then
pub record Read (Part Value : Type 0) : Type 0 where
  pub part : Part
  pub value : Value
  pub version : ℕ
  pub at : ℕ

-- the values read, in order, as decisions see them
abbrev pub copies_of : {Part Value : Type 0} → List (Read Part Value) → List (Part × Value)
copies_of reads = map (λ read. (read.part, read.value)) reads

-- these were read at the end of this history
abbrev pub AreAt : {Part Value Command Answer : Type 0} → List (Entry Command Answer) → List (Read Part Value) → Type 0
AreAt history reads = All (λ x. x.at ≡ length history) reads

-- the first read, in read order, whose part has a version now that is greater than the length at the read
abbrev pub first_stale : {Part Value : Type 0} → (Part → ℕ) → List (Read Part Value) → Option (Stale Part)
first_stale version [] = None
first_stale version (x ∷ xs) = if nat_lt x.at (version x.part) then Some (record { part = x.part; version = version x.part }) else first_stale version xs

module _ {Part Value Command Answer : Type 0} (r : Rules Part Value Command Answer) where
  -- the read of a part as it now is
  abbrev pub read_now : List (Entry Command Answer) → Part → Read Part Value
  read_now history part = record { part = part; value = value_of r history part; version = version_of r history part; at = length history }

  -- the read was made in this history: at that length the part had this value and this version
  pub record IsRead (history : List (Entry Command Answer)) (x : Read Part Value) : Type 0 where
    pub in_history : x.at ≤ length history
    pub value : x.value ≡ value_of r (take x.at history) x.part
    pub version : x.version ≡ version_of r (take x.at history) x.part

  -- no entry placed after the read touches its part
  abbrev pub IsFresh : List (Entry Command Answer) → Read Part Value → Type 0
  IsFresh history x = version_of r history x.part ≤ x.at

  -- the first of the reads that isn't fresh is of this part, whose version is now this
  pub record IsStale (history : List (Entry Command Answer)) (reads : List (Read Part Value)) (part : Part) (version : ℕ) : Type 0 where
    pub earlier : List (Read Part Value)
    pub read : Read Part Value
    pub later : List (Read Part Value)
    pub in_order : reads ≡ earlier ++ read ∷ later
    pub earlier_fresh : All (IsFresh history) earlier
    pub of_part : read.part ≡ part
    pub touched_later : read.at < version
    pub version_now : version ≡ version_of r history part
