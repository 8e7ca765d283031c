-- The cases that some changes assigned or referred to a judge.
use Rattle.std.specs.Prelude.{◌≡◌, ℕ, ◌==◌, Bool, true, false, ◌||◌, nat_eq, List, Option, Some, None, fold, unwrap_or, if◌then◌else◌}
use Rattle.std.specs.HashMap.{HashMap, get}
use Rattle.docket_rows.specs.Words.{has_one}
use Rattle.docket_selection.specs.declared.changes.change.Change.{Change}
use Rattle.docket_selection.specs.declared.changes.change.Change.TheVariants as change
use Rattle.docket_selection.specs.declared.changes.change.RowChange.{RowChange}

-- the judge is the one to whom a case is assigned, or the one to whom it is referred
abbrev pub is_given_to : (judge : Option ℕ) → (to : ℕ) → (referred : Option ℕ) → Bool
is_given_to judge to referred = has_one (λ j. (to == j) || has_one (λ other. other == j) referred) judge

-- the case that a change assigns or refers to the judge, if it does
abbrev pub case_assigned : (judge : Option ℕ) → Change → Option ℕ
case_assigned judge (change.Judges case to referred) = if is_given_to judge to referred then Some case else None
case_assigned judge (change.Hearing h) = None
case_assigned judge (change.Deadline case) = None
case_assigned judge change.Days = None

abbrev pub assigns : (judge : Option ℕ) → (case : ℕ) → Change → Bool
assigns judge case change = has_one (λ of. of == case) (case_assigned judge change)

-- one of the changes assigned or referred the case to the judge
abbrev pub was_assigned : (judge : Option ℕ) → (case : ℕ) → List RowChange → Bool
was_assigned judge case changes = fold (λ before (c : RowChange). if assigns judge case c.change then true else before) false changes

-- the case is noted
abbrev pub is_noted : {S : Type 0} (case : ℕ) → HashMap ℕ Bool S → Bool
is_noted case cases = unwrap_or (get nat_eq cases case) false

-- just those cases are noted
pub record NotesAssigned {S : Type 0} (judge : Option ℕ) (changes : List RowChange) (cases : HashMap ℕ Bool S) : Type 0 where
  pub exact : (case : ℕ) → is_noted case cases ≡ was_assigned judge case changes
