-- Whether an entry is a row.
use Rattle.std.proofs.Common.{◌≡◌, ℕ, true, false, List, [], Option, Some, None, refl}
use Rattle.std.specs.Prelude.{IsSome, is_none}
use Rattle.desk_register.specs.Differences.{change_as}
use Rattle.desk_register.specs.Entries.{Note, note_in}
use Rattle.desk_register.specs.declared.standing.Standing.{Standing}

pub some_if : {A : Type 0} (o : Option A) → is_none o ≡ false → IsSome o
some_if None h = cc h
some_if (Some a) h = refl

pub none_if : {A : Type 0} (o : Option A) → is_none o ≡ true → o ≡ None
none_if None h = refl
none_if (Some a) h = cc h

-- an entry that is no row is no change
pub change_noted : (under : Standing) (kept : List (List ℕ)) (entry : List ℕ) → IsSome (note_in entry) → change_as (note_in entry) under kept entry ≡ []
change_noted under kept entry some = by (note_in entry) some
  where
    by : (n : Option Note) → IsSome n → change_as n under kept entry ≡ []
    by None h = cc h
    by (Some note) h = refl
