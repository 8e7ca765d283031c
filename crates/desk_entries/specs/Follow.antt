-- A docket that goes on with entries that came after those to which it comes.
use Rattle.std.specs.Prelude.{ℕ, ◌≡◌, ◌+◌, ◌&&◌, Bool, List, is_none, length, nat_le}
use Rattle.std.specs.List.{list_all}
use Rattle.court_days.specs.Words.{file_of}
use Rattle.desk_entries.specs.declared.docketed.Docketed.{Docketed}
use Rattle.desk_register.specs.Words.{IsReadyAt, entries_taken, most_entries, note_in, number_of_next}
use Rattle.desk_entries.specs.Docketed.{IsDocketed}

-- all of these entries are rows: no court's file, no strike and no restore is among them
abbrev pub are_rows : (entries : List (List ℕ)) → Bool
are_rows entries = list_all (λ entry. is_none (note_in entry)) entries

-- A docket goes on with later entries where all of them are rows, and a journal has room for them after those before.
abbrev pub goes_on : (before more : List (List ℕ)) → Bool
goes_on before more = are_rows more && nat_le (length before + length more) most_entries

-- Two dockets stand for the same: one court's file says both courts, the same rows are struck and keep the same numbers, and both have
-- the same number of entries and of rows.
pub record StandForTheSame (docketed other : Docketed) : Type 0 where
  pub court : file_of docketed.standing.court ≡ file_of other.standing.court
  pub corrections : docketed.standing.corrections ≡ other.standing.corrections
  pub entries : entries_taken docketed.register ≡ entries_taken other.register
  pub number : number_of_next docketed.register ≡ number_of_next other.register

-- Going on gives what opening anew gives: two dockets to which the same entries come stand for the same, however each was made. Where
-- they have one value of the court, each is ready for the next line under what stands for the other, and so leaves and answers the same.
abbrev pub GoingOnIsOpeningAnew : Type 0
GoingOnIsOpeningAnew = (docketed other : Docketed) (entries : List (List ℕ)) → IsDocketed docketed entries → IsDocketed other entries →
    StandForTheSame docketed other
    × (docketed.standing.court ≡ other.standing.court → IsReadyAt docketed.standing other.register entries)
