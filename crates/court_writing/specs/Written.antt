-- What is written for a court: a file with its zone, its hours and its names, whose span is whole years, and whose lists have just
-- the days of the definitions.
use Rattle.std.specs.Prelude.{◌≡◌, ℕ, ◌+◌, ℤ, pos, nat_le, ◌≤ℤ◌, ◌&&◌, Bool, List, Ok, Some, is_some}
use Rattle.court_clock.specs.Words.{zone_of_text}
use Rattle.toml.specs.Data.{Members}
use Rattle.court_days.specs.Words.{CourtFile, DaysView, desk_court_in, desk_court_of, is_among}
use Rattle.court_holidays.specs.States.Words.{on}
use Rattle.court_holidays.specs.declared.states.state.State.{State}
use Rattle.court_writing.specs.Listed.{federal_on, state_on}
use Rattle.court_writing.specs.Own.{OwnView, closes_of, judges_of, opens_of, rooms_of}

-- the years for which a file can be written: from 2016 to 2199, and at most a hundred of them
abbrev pub are_years : ℕ → ℕ → Bool
are_years from to = nat_le 2016 from && (nat_le from to && (nat_le to 2199 && nat_le to (from + 99)))

-- a day is in each list of the calendar exactly where it's listed for the court
pub record IsListed (state : State) (days : DaysView) (d : ℤ) : Type 0 where
  pub federal : is_among days.federal d ≡ is_some (federal_on state d)
  pub of_state : is_among days.state d ≡ is_some (state_on state d)

-- the calendar goes from 1 January of a year to 31 December of another, and so does each of its lists
pub record AreDaysOf (state : State) (from to : ℤ) (days : DaysView) : Type 0 where
  pub first : days.from ≡ on 1 1 from
  pub last : days.to ≡ on 12 31 to
  pub listed : (d : ℤ) → days.from ≤ℤ d → d ≤ℤ days.to → IsListed state days d

-- the court's file has the zone with this text, the court's hours and names, and those days
pub record IsOfCourt (state : State) (zone : List ℕ) (own : OwnView) (from to : ℤ) (file : CourtFile) : Type 0 where
  pub zone_is : zone_of_text zone ≡ Some file.zone
  pub opens : file.opens ≡ opens_of own
  pub closes : file.closes ≡ closes_of own
  pub efiling_until : file.efiling_until ≡ own.efiling_until
  pub judges : file.judges ≡ judges_of own
  pub rooms : file.rooms ≡ rooms_of own
  pub days : AreDaysOf state from to file.days

-- the document says that
abbrev pub IsDocumentOf : State → (zone : List ℕ) → OwnView → (from to : ℕ) → Members → Type 0
IsDocumentOf state zone own from to document =
    (file : CourtFile) × (desk_court_of document ≡ Ok file) × IsOfCourt state zone own (pos from) (pos to) file

-- the text is that court's file
abbrev pub IsFileOf : State → (zone : List ℕ) → OwnView → (from to : ℕ) → List ℕ → Type 0
IsFileOf state zone own from to text =
    (file : CourtFile) × (desk_court_in text ≡ Ok file) × IsOfCourt state zone own (pos from) (pos to) file
