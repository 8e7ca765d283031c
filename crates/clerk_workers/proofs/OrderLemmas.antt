-- Seats in order.
use Rattle.std.proofs.Common.{◌≡◌, ℕ, zero, suc, ◌+◌, List, [], ◌∷◌, ◌++◌, length, refl, ◌∙◌, arith, length-append}
use Rattle.clerk_seats.specs.Words.{SeatView, open_seat, open_seats}
use Rattle.clerk_workers.specs.Runs.{AreInOrder, AreNumbered}

-- one more seat, with the next number
numbered_push : (first : ℕ) (seats : List SeatView) (seat : SeatView) → AreNumbered first seats → seat.number ≡ first + length seats → AreNumbered first (seats ++ seat ∷ [])
numbered_push first [] seat are next = (omega (arith, next), tt)
numbered_push first (s ∷ seats) seat are next = (are.0, numbered_push (first + 1) seats seat are.1 (omega (arith, next)))

pub open_long : (limit count : ℕ) → length (open_seats limit count) ≡ count
open_long limit zero = refl
open_long limit (suc count) = length-append (open_seats limit count) (open_seat limit (count + 1) ∷ []) ∙ omega (arith, open_long limit count)

-- the seats of an office that was opened are in order
pub open_in_order : (limit count : ℕ) → AreInOrder (open_seats limit count)
open_in_order limit zero = tt
open_in_order limit (suc count) =
    numbered_push 1 (open_seats limit count) (open_seat limit (count + 1)) (open_in_order limit count) (omega (arith, open_long limit count))
