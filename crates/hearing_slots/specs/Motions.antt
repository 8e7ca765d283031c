-- The booking of each motion, found by case and motion.
use Rattle.std.specs.Prelude.{◌≡◌, ℕ, Bool, ◌&&◌, nat_eq, Option, List, find}
use Rattle.std.specs.HashMap.{HashMap, get}
use Rattle.hearing_slots.specs.declared.booking.Booking.{Booking}
use Rattle.hearing_slots.specs.Booking.{is_of}

-- two pairs name the same case and motion
abbrev pub same_motion : (x y : ℕ × ℕ) → Bool
same_motion x y = nat_eq x.0 y.0 && nat_eq x.1 y.1

-- the booking that is noted for the motion
abbrev pub noted : {S : Type 0} (case motion : ℕ) → HashMap (ℕ × ℕ) Booking S → Option Booking
noted case motion motions = get same_motion motions (case, motion)

-- for each motion just its booking is noted
pub record NotesBookings {S : Type 0} (bookings : List Booking) (motions : HashMap (ℕ × ℕ) Booking S) : Type 0 where
  pub exact : (case motion : ℕ) → noted case motion motions ≡ find (is_of case motion) bookings

-- new has this booking for the motion, or none, and for every other motion what old has
pub record NotesOnly {S : Type 0} (old new : HashMap (ℕ × ℕ) Booking S) (case motion : ℕ) (booking : Option Booking) : Type 0 where
  pub this_motion : noted case motion new ≡ booking
  pub other_motions : (c m : ℕ) → ((c ≡ case) × (m ≡ motion) → ⊥) → noted c m new ≡ noted c m old
