-- The closed journal of an office, and the tallies that its seats left.
use Rattle.std.specs.Prelude.{◌≡◌, ℕ, ◌<◌, ◌≤◌, true, nat_eq, List, length, map, All, Contains}
use Rattle.std.specs.List.{IsDistinct, sum_by}
use mathlib.Core.List.{IsPrefix}
use Rattle.docket_rows.specs.declared.answer.Answer.{Answer}
use Rattle.docket_rows.specs.declared.command.Command.{Command}
use Rattle.docket_rows.specs.Words.{CourtSetup}
use Rattle.versioned_steps.specs.declared.entry.Entry.{Entry}
use Rattle.versioned_steps.specs.Words.{is_legal}
use Rattle.shared_docket.specs.Words.{docket_rules, IsSequential}
use Rattle.clerk_seats.specs.declared.fault.CloseError.{CloseError}
use Rattle.clerk_seats.specs.declared.fault.CloseError.TheVariants.{MissingTally, OutOfMemory}
use Rattle.clerk_seats.specs.Places.{places_of}

-- what contracts see of a tally: the number of its seat, what that had seen of the history, and the places of the calls that it finished
pub record TallyView : Type 0 where
  pub number : ℕ
  pub seen : List (Entry Command Answer)
  pub mine : List ℕ

abbrev pub numbers_of : List TallyView → List ℕ
numbers_of tallies = map (λ (t : TallyView). t.number) tallies

-- how many calls they finished together
abbrev pub calls_of : List TallyView → ℕ
calls_of tallies = sum_by (λ (t : TallyView). length t.mine) tallies

-- no two are of one seat
abbrev pub AreApart : List TallyView → Type 0
AreApart tallies = IsDistinct nat_eq (numbers_of tallies)

-- each seat has left one; seats are numbered from 1
abbrev pub HasTallies : (seats : ℕ) → List TallyView → Type 0
HasTallies seats tallies = (number : ℕ) → 0 < number → number ≤ seats → Contains (numbers_of tallies) number

-- each is of a seat
abbrev pub AreOfSeats : (seats : ℕ) → List TallyView → Type 0
AreOfSeats seats tallies = (number : ℕ) → Contains (numbers_of tallies) number → (0 < number) × (number ≤ seats)

-- the least number, from 1 to that of the last seat, of which there is no tally
pub record IsFirstMissing (seats : ℕ) (tallies : List TallyView) (number : ℕ) : Type 0 where
  pub from_one : 0 < number
  pub of_a_seat : number ≤ seats
  pub missing : Contains (numbers_of tallies) number → ⊥
  pub least : (lesser : ℕ) → 0 < lesser → lesser < number → Contains (numbers_of tallies) lesser

-- why an office wasn't closed; never for want of memory, since closing takes none
abbrev pub StaysOpen : (seats : ℕ) → List TallyView → CloseError → Type 0
StaysOpen seats tallies (MissingTally number) = IsFirstMissing seats tallies number
StaysOpen seats tallies OutOfMemory = ⊥

-- the journal is legal, and is that of a docket which one clerk gives its commands in order; what each seat had seen is a beginning of it;
-- the calls of each seat are its entries; it has no other entries
pub record IsClosed (setup : CourtSetup) (tallies : List TallyView) (journal : List (Entry Command Answer)) : Type 0 where
  pub legal : is_legal (docket_rules setup) journal ≡ true
  pub sequential : IsSequential setup journal
  pub seen : All (λ (t : TallyView). IsPrefix t.seen journal) tallies
  pub mine : All (λ (t : TallyView). t.mine ≡ places_of t.number journal) tallies
  pub no_other : All (λ (e : Entry Command Answer). Contains (numbers_of tallies) e.clerk) journal
