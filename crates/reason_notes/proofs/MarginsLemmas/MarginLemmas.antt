-- An act was timely where its margin says so: by days.
use Rattle.std.proofs.Common.{◌≡◌, ◌-ℤ◌, ℕ, ℤ, int_lt, unsigned_abs, Bool, true, false, ◌&&◌, ◌||◌, if◌then◌else◌, arith, refl}
use Rattle.std.specs.Ordering.{int_eq}
use Rattle.reason_notes.specs.declared.margins.margin.Margin.{Margin}
use Rattle.reason_notes.specs.declared.margins.margin.Margin.TheVariants.{DaysEarly, OnLastDay, AfterDayEnd, DaysLate}
use Rattle.reason_notes.specs.Margins.Margin.{is_timely_by, is_undecided_by}

-- of the two orders and the equality of two days, one holds
one_of_three : (d last : ℤ) (before after within : Bool) → int_lt d last ≡ before → int_lt last d ≡ after → (early late : Margin) (m : ℕ) → is_timely_by early ≡ true → is_timely_by late ≡ false → is_timely_by (if before then early else if after then late else if within then OnLastDay else AfterDayEnd m) ≡ (before || (int_eq d last && within))
one_of_three d last true after within b a early late m is_early is_late = is_early
one_of_three d last false true within b a early late m is_early is_late =
    let other : int_eq d last ≡ false = grind arith in
    rw other is_late
one_of_three d last false false true b a early late m is_early is_late =
    let same : int_eq d last ≡ true = grind arith in
    rw same refl
one_of_three d last false false false b a early late m is_early is_late =
    let same : int_eq d last ≡ true = grind arith in
    rw same refl

pub timely_by_day : (d last : ℤ) (within : Bool) (m : ℕ) → is_timely_by (if int_lt d last then DaysEarly (unsigned_abs (last -ℤ d)) else if int_lt last d then DaysLate (unsigned_abs (d -ℤ last)) else if within then OnLastDay else AfterDayEnd m) ≡ (int_lt d last || (int_eq d last && within))
timely_by_day d last within m = one_of_three d last (int_lt d last) (int_lt last d) within refl refl (DaysEarly (unsigned_abs (last -ℤ d))) (DaysLate (unsigned_abs (d -ℤ last))) m refl refl

-- a test that is passed by the first of two margins alone
pub timely_if : (test : Bool) (early late : Margin) → is_timely_by early ≡ true → is_timely_by late ≡ false → is_timely_by (if test then early else late) ≡ test
timely_if true early late is_early is_late = is_early
timely_if false early late is_early is_late = is_late

-- of two margins that decide, each does
pub decided_if : (test : Bool) (early late : Margin) → is_undecided_by early ≡ false → is_undecided_by late ≡ false → is_undecided_by (if test then early else late) ≡ false
decided_if true early late early_does late_does = early_does
decided_if false early late early_does late_does = late_does
