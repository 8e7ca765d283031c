-- A row that is struck, or that was struck and is restored: when it is, and what is written of it.
use Rattle.std.specs.Prelude.{◌≡◌, ℕ, Bool, List, [], ◌∷◌, ◌++◌, Err, Ok, Option, Result}
use Rattle.desk_numbers.specs.declared.said.Said.{Said}
use Rattle.desk_numbers.specs.declared.strikes.restore.Restore.{Restore}
use Rattle.desk_numbers.specs.declared.strikes.strike.Strike.{Strike}
use Rattle.desk_numbers.specs.Strikes.Words.{restore_entry, strike_entry, struck_with, struck_without}
use Rattle.desk_register.specs.declared.fault.StrikeFault.{StrikeFault}
use Rattle.desk_register.specs.declared.standing.Standing.{Standing}
use Rattle.desk_entries.specs.Words.{IsHistory, SaysCourt, corrections_then, restore_for, standing_file, strike_for, unsaid_by}
use Rattle.desk_program.specs.declared.entry_kind.EntryKind.{EntryKind}
use Rattle.desk_program.specs.declared.entry_kind.EntryKind.TheVariants as kind
use Rattle.desk_program.specs.declared.row_correction.RowCorrection.{RowCorrection}
use Rattle.desk_program.specs.declared.row_correction.RowCorrection.TheVariants as done
use Rattle.desk_program.specs.declared.row_correction.RowNote.{RowNote}
use Rattle.desk_program.specs.declared.row_correction.RowNote.TheVariants.{Restored, Struck}
use Rattle.desk_program.specs.Correction.{IsListed, IsOnlyListed}

-- the strike or the restore that is kept of a row, or why it can't be struck or restored
abbrev pub struck_as : Result Strike StrikeFault → Result RowNote StrikeFault
struck_as (Ok strike) = Ok (Struck strike)
struck_as (Err fault) = Err fault

abbrev pub restored_as : Result Restore StrikeFault → Result RowNote StrikeFault
restored_as (Ok restore) = Ok (Restored restore)
restored_as (Err fault) = Err fault

abbrev pub note_for : RowCorrection → Standing → (entries : List (List ℕ)) → (row : ℕ) → Result RowNote StrikeFault
note_for done.Strike under entries row = struck_as (strike_for under entries row)
note_for done.Restore under entries row = restored_as (restore_for under entries row)

-- the rows that are struck after it
abbrev pub struck_after : RowNote → (struck : List ℕ) → List ℕ
struck_after (Struck strike) struck = struck_with struck strike.row
struck_after (Restored restore) struck = struck_without struck restore.row

-- its entry, with the numbers that rows gave since the last correction
abbrev pub note_entry : RowNote → (said : List Said) → (remark : List ℕ) → List ℕ
note_entry (Struck strike) said remark = strike_entry strike said remark
note_entry (Restored restore) said remark = restore_entry restore said remark

abbrev pub kind_of_note : RowNote → EntryKind
kind_of_note (Struck strike) = kind.Strike strike.row
kind_of_note (Restored restore) = kind.Restore restore.row

-- what stands once that is done with a row: the same court, and the corrections with it, in which rows keep their numbers
pub record IsCorrected (done : RowCorrection) (under : Standing) (entries : List (List ℕ)) (row : ℕ) (note : RowNote) (then : Standing) : Type 0 where
  pub note_is : note_for done under entries row ≡ Ok note
  pub court : SaysCourt (standing_file entries) then.court
  pub corrections : then.corrections ≡ corrections_then under entries (struck_after note under.corrections.struck)

-- The strike or the restore is kept after the entries, with what rows gave by then, and with them it is a history if they are. What it
-- changes is written, and without leave it changes no answer.
pub record CorrectsRow (done : RowCorrection) (under : Standing) (entries : List (List ℕ)) (row : ℕ) (remark : List ℕ) (accept : Bool) (before after : Option (List ℕ)) (Keeps : List (List ℕ) → Type 0) : Type 0 where
  pub note : RowNote
  pub then : Standing
  pub corrected : IsCorrected done under entries row note then
  pub listed : IsListed under then entries (kind_of_note note) accept before after
  pub keeps : Keeps (entries ++ note_entry note (unsaid_by under entries) remark ∷ [])
  pub history : IsHistory entries → IsHistory (entries ++ note_entry note (unsaid_by under entries) remark ∷ [])

-- The row is left as it is, since for this many rows leave is asked. What the strike or the restore changes is written.
pub record LeavesRow (done : RowCorrection) (under : Standing) (entries : List (List ℕ)) (row : ℕ) (count : ℕ) (before after : Option (List ℕ)) : Type 0 where
  pub note : RowNote
  pub then : Standing
  pub corrected : IsCorrected done under entries row note then
  pub listed : IsOnlyListed under then entries (kind_of_note note) count before after
