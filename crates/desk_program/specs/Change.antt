-- Another court's file for a docket: when it is taken, and what is written of it.
use Rattle.std.specs.Prelude.{◌≡◌, ℕ, Bool, List, [], ◌∷◌, ◌++◌, Option, Some}
use Rattle.desk_register.specs.declared.standing.Standing.{Standing}
use Rattle.desk_entries.specs.Words.{IsHistory, SaysCourt, SaysNumbers, corrections_then, later_file}
use Rattle.desk_program.specs.declared.entry_kind.EntryKind.TheVariants.{CourtFile}
use Rattle.desk_program.specs.Correction.{IsListed, IsOnlyListed}

-- what stands once a court goes by another file, where this stood after entries
pub record IsChanged (under : Standing) (entries : List (List ℕ)) (file : List ℕ) (then : Standing) : Type 0 where
  pub court : SaysCourt file then.court
  pub corrections : then.corrections ≡ corrections_then under entries under.corrections.struck

-- The file is kept after the entries, after which this stood, with what rows gave by then, and with them it is a history if they are.
-- What it changes is written, and without leave it changes no answer.
pub record TakesFile (under : Standing) (entries : List (List ℕ)) (file : List ℕ) (accept : Bool) (before after : Option (List ℕ)) (Keeps : List (List ℕ) → Type 0) : Type 0 where
  pub then : Standing
  pub changed : IsChanged under entries file then
  pub listed : IsListed under then entries CourtFile accept before after
  pub entry : List ℕ
  pub is_file : later_file entry ≡ Some file
  pub says : SaysNumbers under entries entry
  pub keeps : Keeps (entries ++ entry ∷ [])
  pub history : IsHistory entries → IsHistory (entries ++ entry ∷ [])

-- The file isn't taken, since this many rows would be answered otherwise than now. What it changes is written.
pub record RefusesFile (under : Standing) (entries : List (List ℕ)) (file : List ℕ) (count : ℕ) (before after : Option (List ℕ)) : Type 0 where
  pub then : Standing
  pub changed : IsChanged under entries file then
  pub listed : IsOnlyListed under then entries CourtFile count before after
