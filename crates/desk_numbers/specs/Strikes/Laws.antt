-- What these definitions come to.
use Rattle.std.specs.Prelude.{◌≡◌, ◌<◌, ℕ, false, List, [], None, Some, All, nat_eq}
use Rattle.std.specs.List.{list_any}
use Rattle.desk_numbers.specs.declared.said.Said.{Said}
use Rattle.desk_numbers.specs.declared.strikes.restore.Restore.{Restore}
use Rattle.desk_numbers.specs.declared.strikes.strike.Strike.{Strike}
use Rattle.desk_numbers.specs.Strikes.Corrections.{is_among, struck_with, struck_without}
use Rattle.desk_numbers.specs.Strikes.Line.{remark_in}
use Rattle.desk_numbers.specs.Strikes.Restore.{restore_entry, restore_in}
use Rattle.desk_numbers.specs.Strikes.SaidText.{Fits, entry_with, said_in}
use Rattle.desk_numbers.specs.Strikes.Strike.{strike_entry, strike_in}

-- A strike of a row whose number has nine digits at most is read as it is written, with its remark and what it says of rows.
abbrev pub StrikesAreReadBack : Type 0
StrikesAreReadBack = (strike : Strike) (said : List Said) (remark : List ℕ) → strike.row < 1_000_000_000 → All Fits said
    → (strike_in (strike_entry strike said remark) ≡ Some strike) × (remark_in (strike_entry strike said remark) ≡ remark) × (said_in (strike_entry strike said remark) ≡ said)

-- And so is a restore.
abbrev pub RestoresAreReadBack : Type 0
RestoresAreReadBack = (restore : Restore) (said : List Said) (remark : List ℕ) → restore.row < 1_000_000_000 → All Fits said
    → (restore_in (restore_entry restore said remark) ≡ Some restore) × (remark_in (restore_entry restore said remark) ≡ remark) × (said_in (restore_entry restore said remark) ≡ said)

-- Whatever a first line begins with, what it says of rows is read as it is written: only, that has no end of a line, and no word of it
-- says a number.
abbrev pub NumbersAreReadBack : Type 0
NumbersAreReadBack = (mark : List ℕ) (said : List Said) (rest : List ℕ) → list_any (nat_eq 10) mark ≡ false → said_in mark ≡ [] → All Fits said → said_in (entry_with mark said rest) ≡ said

-- No entry is both: one that is a strike is no restore.
abbrev pub NoEntryIsBoth : Type 0
NoEntryIsBoth = (entry : List ℕ) (strike : Strike) → strike_in entry ≡ Some strike → restore_in entry ≡ None

-- A restore undoes the strike of its row: the same rows are struck as before it, and in the same order. The row itself isn't
-- struck after any restore of it.
abbrev pub ARestoreUndoesItsStrike : Type 0
ARestoreUndoesItsStrike = (struck : List ℕ) (row : ℕ) → (is_among struck row ≡ false → struck_without (struck_with struck row) row ≡ struck) × (is_among (struck_without struck row) row ≡ false)
