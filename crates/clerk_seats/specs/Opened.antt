-- An office that was opened, and its seats.
use Rattle.std.specs.Prelude.{◌≡◌, ℕ, zero, suc, ◌+◌, ◌<◌, ◌≤◌, None, List, [], ◌∷◌, ◌++◌, ⊤}
use Rattle.clerk_seats.specs.declared.fault.OfficeError.{OfficeError}
use Rattle.clerk_seats.specs.declared.fault.OfficeError.TheVariants.{BadSeats, BadLimit, NoReader, OutOfMemory}
use Rattle.clerk_seats.specs.Seats.{SeatView}

-- an office has 1 to 64 seats
pub record AreSeats (seats : ℕ) : Type 0 where
  pub some : 0 < seats
  pub few : seats ≤ 64

-- a journal takes at most 1,000,000 entries
abbrev pub IsLimit : ℕ → Type 0
IsLimit limit = limit ≤ 1000000

-- a seat whose clerk has seen nothing and done nothing
abbrev pub open_seat : (limit number : ℕ) → SeatView
open_seat limit number = record { number = number; limit = limit; seen = []; mine = []; draft = None }

-- the first `count` of them, numbered from 1
abbrev pub open_seats : (limit count : ℕ) → List SeatView
open_seats limit zero = []
open_seats limit (suc count) = open_seats limit count ++ open_seat limit (count + 1) ∷ []

-- the office has as many seats as were asked for
pub record IsOpened (seats limit office : ℕ) (opened : List SeatView) : Type 0 where
  pub are_seats : AreSeats seats
  pub is_limit : IsLimit limit
  pub office_is : office ≡ seats
  pub seats_are : opened ≡ open_seats limit seats

-- why no office was opened
abbrev pub IsRefused : (seats limit : ℕ) → OfficeError → Type 0
IsRefused seats limit BadSeats = AreSeats seats → ⊥
IsRefused seats limit BadLimit = AreSeats seats × (IsLimit limit → ⊥)
IsRefused seats limit NoReader = AreSeats seats × IsLimit limit
IsRefused seats limit OutOfMemory = AreSeats seats × IsLimit limit

-- the reasons that come only once the numbers were tested
abbrev pub IsLate : OfficeError → Type 0
IsLate BadSeats = ⊥
IsLate BadLimit = ⊥
IsLate NoReader = ⊤
IsLate OutOfMemory = ⊤

-- the office keeps all of its ledger that no seat has
pub record IsOffice (seats parts amount : ℕ) : Type 0 where
  pub are_seats : AreSeats seats
  pub all_parts : parts + seats ≡ 64
  pub uncounted : amount ≡ 0
