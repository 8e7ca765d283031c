-- What is noted of changes.
use Rattle.std.specs.Prelude.{◌≡◌, ℕ, Bool, ◌&&◌, nat_eq, List, Option, unwrap_or}
use Rattle.std.specs.HashMap.{HashMap, get}
use Rattle.docket_selection.specs.declared.changes.change.RowChange.{RowChange}
use Rattle.docket_selection.specs.declared.changes.history.HearingHistory.{HearingHistory}
use Rattle.docket_selection.specs.Changes.History.{history_of}
use Rattle.docket_selection.specs.Changes.Revision.{changes_case, last_row}

-- some changes, and the judge, if one is chosen, before whom hearings are followed
pub record FollowedChanges : Type 0 where
  pub judge : Option ℕ
  pub changes : List RowChange

-- two pairs name the same case and motion
abbrev pub same_motion : (x y : ℕ × ℕ) → Bool
same_motion x y = nat_eq x.0 y.0 && nat_eq x.1 y.1

-- the history that is noted for the motion, if one is
abbrev pub noted : {S : Type 0} (case motion : ℕ) → HashMap (ℕ × ℕ) HearingHistory S → Option HearingHistory
noted case motion histories = get same_motion histories (case, motion)

-- the row that is noted for the case; 0 where none is
abbrev pub row_noted : {S : Type 0} (case : ℕ) → HashMap ℕ ℕ S → ℕ
row_noted case rows = unwrap_or (get nat_eq rows case) 0

-- for each motion just its history is noted
pub record NotesHistories {S : Type 0} (judge : Option ℕ) (changes : List RowChange) (histories : HashMap (ℕ × ℕ) HearingHistory S) : Type 0 where
  pub exact : (case motion : ℕ) → noted case motion histories ≡ history_of judge case motion changes

-- for each case just the last row that changed it
pub record NotesRows {S : Type 0} (changes : List RowChange) (rows : HashMap ℕ ℕ S) : Type 0 where
  pub exact : (case : ℕ) → row_noted case rows ≡ last_row (changes_case case) changes
