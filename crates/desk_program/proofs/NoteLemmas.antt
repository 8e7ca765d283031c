-- What a docket comes to after an entry that is no row.
use Rattle.std.proofs.Common.{◌≡◌, ◌∙◌, ◌<◌, ◌≤◌, ◌++◌, ◌∷◌, [], ℕ, List, Err, Ok, Option, Result, Some, ap, length, sym, subst}
use Rattle.std.specs.Prelude.{All}
use Rattle.desk_numbers.specs.declared.said.Said.{Said}
use Rattle.desk_numbers.specs.declared.strikes.restore.Restore.{Restore}
use Rattle.desk_numbers.specs.declared.strikes.strike.Strike.{Strike}
use Rattle.desk_numbers.specs.Strikes.Words.{Fits, restore_in, said_in, strike_in}
use Rattle.desk_register.specs.declared.fault.StrikeFault.{StrikeFault}
use Rattle.desk_entries.specs.declared.docketed.Docketed.{Docketed}
use Rattle.desk_register.specs.declared.standing.Standing.{Standing}
use Rattle.desk_entries.specs.Words.{CanBe, IsDocketed, Note, SaysCourt, SaysNumbers, StandsAfter, StandsAt, corrections_then, court_file, file_with, later_file, most_entries, note_in, note_of, restore_for, row_restored, row_struck, standing_file, strike_for, struck_by}
use Rattle.desk_entries.proofs.CallerLemmas.{docketed_note, restore_said_again, strike_said_again}
use Rattle.desk_program.specs.declared.row_correction.RowCorrection.{RowCorrection}
use Rattle.desk_program.specs.declared.row_correction.RowCorrection.TheVariants as done
use Rattle.desk_program.specs.declared.row_correction.RowNote.{RowNote}
use Rattle.desk_program.specs.declared.row_correction.RowNote.TheVariants.{Restored, Struck}
use Rattle.desk_program.specs.RowCorrection.{note_entry, note_for, restored_as, struck_after, struck_as}
use Rattle.desk_program.specs.Inside.Note.{ComesTo}

pub file_noted : (entry file : List ℕ) → later_file entry ≡ Some file → note_in entry ≡ Some (court_file file)
file_noted entry file is = ap (λ (f : Option (List ℕ)). note_of f (strike_in entry) (restore_in entry)) is

-- what a strike or a restore of a row is
abbrev pub as_note : RowNote → Note
as_note (Struck strike) = row_struck strike
as_note (Restored restore) = row_restored restore

-- after one that can be made and says what rows gave
pub comes_by_note : (docketed : Docketed) (standing : Standing) (before : List (List ℕ)) (entry : List ℕ) (note : Note) → IsDocketed docketed before → note_in entry ≡ Some note → CanBe note before → SaysNumbers docketed.standing before entry
    → SaysCourt (file_with (standing_file before) (Some note)) standing.court → standing.corrections ≡ corrections_then docketed.standing before (struck_by docketed.standing.corrections.struck (Some note)) → ComesTo standing (before ++ entry ∷ [])
comes_by_note docketed standing before entry note is noted can says court same after stands register =
    docketed_note docketed after before entry note is noted can says
    (subst (λ (s : Standing). SaysCourt (file_with (standing_file before) (Some note)) s.court) (sym stands) court)
    (ap (λ (s : Standing). s.corrections) stands ∙ same)
    (subst (λ (s : Standing). StandsAt s after.register (before ++ entry ∷ [])) (sym stands) register)

-- after a strike or a restore
pub comes_by_row : (docketed : Docketed) (standing : Standing) (before : List (List ℕ)) (entry : List ℕ) (note : RowNote) → IsDocketed docketed before → note_in entry ≡ Some (as_note note) → CanBe (as_note note) before → SaysNumbers docketed.standing before entry
    → SaysCourt (standing_file before) standing.court → standing.corrections ≡ corrections_then docketed.standing before (struck_after note docketed.standing.corrections.struck) → ComesTo standing (before ++ entry ∷ [])
comes_by_row docketed standing before entry (Struck strike) = comes_by_note docketed standing before entry (row_struck strike)
comes_by_row docketed standing before entry (Restored restore) = comes_by_note docketed standing before entry (row_restored restore)

-- whose entry says it
struck_said : (r : Result Strike StrikeFault) (strike : Strike) → struck_as r ≡ Ok (Struck strike) → r ≡ Ok strike
struck_said (Ok s) strike is = cc is
struck_said (Err fault) strike is = cc is

never_restored : (r : Result Strike StrikeFault) (restore : Restore) → struck_as r ≡ Ok (Restored restore) → ⊥
never_restored (Ok s) restore is = cc is
never_restored (Err fault) restore is = cc is

restored_said : (r : Result Restore StrikeFault) (restore : Restore) → restored_as r ≡ Ok (Restored restore) → r ≡ Ok restore
restored_said (Ok s) restore is = cc is
restored_said (Err fault) restore is = cc is

never_struck : (r : Result Restore StrikeFault) (strike : Strike) → restored_as r ≡ Ok (Struck strike) → ⊥
never_struck (Ok s) strike is = cc is
never_struck (Err fault) strike is = cc is

pub row_said_again : (done : RowCorrection) (under : Standing) (kept : List (List ℕ)) (row : ℕ) (note : RowNote) (said : List Said) (remark : List ℕ) → 0 < length kept → length kept ≤ most_entries → StandsAfter kept under → note_for done under kept row ≡ Ok note → All Fits said
    → (note_in (note_entry note said remark) ≡ Some (as_note note)) × CanBe (as_note note) kept × (said_in (note_entry note said remark) ≡ said)
row_said_again done.Strike under kept row (Struck strike) said remark begun few stands is fits = strike_said_again under kept row strike said remark begun few stands (struck_said (strike_for under kept row) strike is) fits
row_said_again done.Strike under kept row (Restored restore) said remark begun few stands is fits = absurd (never_restored (strike_for under kept row) restore is)
row_said_again done.Restore under kept row (Struck strike) said remark begun few stands is fits = absurd (never_struck (restore_for under kept row) strike is)
row_said_again done.Restore under kept row (Restored restore) said remark begun few stands is fits = restore_said_again under kept row restore said remark begun few stands (restored_said (restore_for under kept row) restore is) fits
