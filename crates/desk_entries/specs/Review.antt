-- The rows of entries that would be answered otherwise under another court's file, or with other rows struck.
use Rattle.std.specs.Prelude.{ℕ, List, [], ◌∷◌, ◌++◌}
use Rattle.desk_register.specs.declared.standing.Standing.{Standing}
use Rattle.desk_register.specs.Words.{Change, change_as, note_in}

-- the changes to entries that come after these
unfoldable pub changes_after : Standing → (kept : List (List ℕ)) → (later : List (List ℕ)) → List Change
changes_after under kept [] = []
changes_after under kept (entry ∷ later) = change_as (note_in entry) under kept entry ++ changes_after under (kept ++ entry ∷ []) later

-- the changes to entries, of which the first is a court's file: the rows that don't get their answers under what stands
abbrev pub changes_by : Standing → (entries : List (List ℕ)) → List Change
changes_by under [] = []
changes_by under (file ∷ later) = changes_after under (file ∷ []) later
