-- A journal's entries as a history: each row was answered under what stood at its time, and each correction could be made then and says
-- what rows had given.
use Rattle.std.specs.Prelude.{◌≡◌, ⊤, ℕ, true, List, [], ◌∷◌, ◌++◌, Option, Some, None, Ok}
use Rattle.court_days.specs.Words.{CourtView, desk_court_in, file_of}
use Rattle.desk_numbers.specs.Strikes.Words.{said_in}
use Rattle.desk_register.specs.declared.standing.Standing.{Standing}
use Rattle.desk_register.specs.Entries.{Note, can_restore, can_strike, court_file, kept_in, note_in, row_restored, row_struck, standing_file, struck_in}
use Rattle.desk_register.specs.Rows.{follows}
use Rattle.desk_register.specs.Run.{unsaid_by}

-- a file says this court
abbrev pub SaysCourt : (file : List ℕ) → CourtView → Type 0
SaysCourt file court = desk_court_in file ≡ Ok (file_of court)

-- what stands after entries: the court of the file, the rows that are struck, and the numbers that rows keep
pub record StandsAfter (kept : List (List ℕ)) (under : Standing) : Type 0 where
  pub court : SaysCourt (standing_file kept) under.court
  pub struck : under.corrections.struck ≡ struck_in kept
  pub numbers : under.corrections.kept ≡ kept_in kept

-- An entry says the numbers that rows gave under what stands and don't keep yet.
abbrev pub SaysNumbers : Standing → (kept : List (List ℕ)) → (entry : List ℕ) → Type 0
SaysNumbers under kept entry = said_in entry ≡ unsaid_by under kept

-- a note can be made: a later court's file says a court, a strike is of a row that was entered and isn't struck, a restore of a row
-- that is
abbrev pub CanBe : Note → (kept : List (List ℕ)) → Type 0
CanBe (court_file later) kept = (court : CourtView) × SaysCourt later court
CanBe (row_struck struck) kept = can_strike kept struck ≡ true
CanBe (row_restored restored) kept = can_restore kept restored ≡ true

-- An entry that may follow others: a note that can be made and says what rows gave, or a row with the answer that it gets under what
-- stands.
abbrev pub FollowsAs : Option Note → (kept : List (List ℕ)) → (entry : List ℕ) → Type 0
FollowsAs (Some note) kept entry = CanBe note kept × (under : Standing) × StandsAfter kept under × SaysNumbers under kept entry
FollowsAs None kept entry = (under : Standing) × StandsAfter kept under × follows under kept entry

abbrev pub MayFollow : (kept : List (List ℕ)) → (entry : List ℕ) → Type 0
MayFollow kept entry = FollowsAs (note_in entry) kept entry

-- each of these entries may follow those before it
unfoldable pub AllFollow : (kept : List (List ℕ)) → (later : List (List ℕ)) → Type 0
AllFollow kept [] = ⊤
AllFollow kept (entry ∷ later) = MayFollow kept entry × AllFollow (kept ++ entry ∷ []) later

-- the first entry is a court's file as it is, and each later one may follow those before it
abbrev pub IsHistory : List (List ℕ) → Type 0
IsHistory [] = ⊥
IsHistory (file ∷ later) = ((court : CourtView) × SaysCourt file court) × AllFollow (file ∷ []) later
