-- The store of parts: which history it stands for.
use Rattle.std.specs.Prelude.{◌≡◌, ℕ, ◌+◌, Bool, Option, Some, unwrap_or, List, [], length}
use Rattle.std.specs.Option.{option_map_or}
use Rattle.std.specs.Map.{lookup}
use Rattle.versioned_steps.specs.Rules.{Rules}
use Rattle.versioned_steps.specs.History.{value_of, version_of}
use Rattle.versioned_steps.specs.declared.entry.Entry.{Entry}
use Rattle.versioned_steps.specs.declared.stored.Stored.{Stored}

-- what contracts see of a store: whose rules it follows, how many entries were finished, and the parts that were written, each with its
-- version and value; what the last entry wrote may still be apart from the others
pub record StoreView (Owner Part Value : Type 0) : Type 0 where
  pub owner : Owner
  pub length : ℕ
  pub recent : List (Part × Value)
  pub older : List (Part × Stored Value)

-- the writes of an entry that waits to be finished, and the place that it will have
pub record ChangeView (Part Value : Type 0) : Type 0 where
  pub place : ℕ
  pub writes : List (Part × Value)

-- the stored whose part passes the test: among the recent writes, which all have this version, else among the older stored_parts
abbrev pub found_in : {Part Value : Type 0} → (Part → Bool) → ℕ → List (Part × Value) → List (Part × Stored Value) → Option (Stored Value)
found_in test version recent older =
    option_map_or (λ value. Some (record { version = version; value = value })) (lookup test recent) (lookup test older)

-- the change was staged on this store, and nothing was finished since
pub record IsStaged {Owner Part Value : Type 0} (s : StoreView Owner Part Value) (change : ChangeView Part Value) : Type 0 where
  pub place : change.place ≡ s.length + 1
  pub none_since : s.recent ≡ []

module _ {Owner Part Value Command Answer : Type 0} (r : Rules Part Value Command Answer) where
  -- the version and value that the store has for a part; a part never written has version 0 and its opening value
  abbrev pub stored_of : StoreView Owner Part Value → Part → Stored Value
  stored_of s part = unwrap_or (found_in (r.same_part part) s.length s.recent s.older) (record { version = 0; value = r.opening part })

  -- the store stands for this history: as long as it, and each part with its version and value after it
  pub record Replays (history : List (Entry Command Answer)) (s : StoreView Owner Part Value) : Type 0 where
    pub length : s.length ≡ length history
    pub versions : (part : Part) → (stored_of s part).version ≡ version_of r history part
    pub values : (part : Part) → (stored_of s part).value ≡ value_of r history part
