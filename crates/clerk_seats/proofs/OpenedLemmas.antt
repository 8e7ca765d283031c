-- Why an office isn't opened, once its numbers were tested, and the seats that it opens with.
use Rattle.std.proofs.Common.{◌≡◌, ℕ, suc, ◌+◌, [], ◌∷◌, ◌++◌, refl, subst, arith}
use Rattle.clerk_seats.specs.declared.fault.OfficeError.{OfficeError}
use Rattle.clerk_seats.specs.declared.fault.OfficeError.TheVariants.{BadSeats, BadLimit, NoReader, OutOfMemory}
use Rattle.clerk_seats.specs.Opened.{AreSeats, IsLimit, IsLate, IsRefused, open_seat, open_seats}

pub late_refused : (seats limit : ℕ) → AreSeats seats → IsLimit limit → (e : OfficeError) → IsLate e → IsRefused seats limit e
late_refused seats limit are is BadSeats late = absurd late
late_refused seats limit are is BadLimit late = absurd late
late_refused seats limit are is NoReader late = (are, is)
late_refused seats limit are is OutOfMemory late = (are, is)

-- one seat more is open
pub one_more_seat : (limit before : ℕ) → open_seats limit (before + 1) ≡ open_seats limit before ++ open_seat limit (before + 1) ∷ []
one_more_seat limit before =
    let next : suc before ≡ before + 1 = omega arith in
    subst (λ n. open_seats limit n ≡ open_seats limit before ++ open_seat limit (before + 1) ∷ []) next refl
