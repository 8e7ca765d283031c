-- The last day is counted day by day, and rolled to the nearest permitted day.
use Rattle.std.proofs.Common.{◌≡◌, ℕ, zero, suc, ℤ, pos, ◌+ℤ◌, ◌-ℤ◌, true, false, Option, Some, None, refl, sym, ◌∙◌, ap, arith}
use Rattle.std.proofs.lemmas.Int.{ints}
use Rattle.std.specs.Option.{option_and_then}
use Rattle.court_clock.specs.declared.direction.Direction.{Direction}
use Rattle.court_clock.specs.declared.direction.Direction.TheVariants.{After, Before}
use Rattle.court_clock.specs.Words.{counted_from}
use Rattle.court_days.specs.Words.{DaysView, RolledIsNearest, rolled}
use Rattle.rule6.specs.Days.{IsExpiry, IsNthDay, LastDayIsCounted, expiry_of, last_day_of}

-- a search that goes on from what another found
pub found_twice : {A B : Type 0} (f : A → Option B) (o : Option A) (b : B) → option_and_then f o ≡ Some b → (a : A) × ((o ≡ Some a) × (f a ≡ Some b))
found_twice f None b h = absurd (cc)
found_twice f (Some a) b h = (a, (refl, h))

nth_is : (direction : Direction) (event : ℤ) (n : ℕ) (d : ℤ) → IsNthDay direction event n d → d ≡ counted_from event n direction
nth_is After event zero d h = omega (arith, ints, h)
nth_is After event (suc n) d h = omega (arith, ints, nth_is After (event +ℤ pos 1) n d h)
nth_is Before event zero d h = omega (arith, ints, h)
nth_is Before event (suc n) d h = omega (arith, ints, nth_is Before (event -ℤ pos 1) n d h)

is_nth : (direction : Direction) (event : ℤ) (n : ℕ) (d : ℤ) → d ≡ counted_from event n direction → IsNthDay direction event n d
is_nth After event zero d h = omega (arith, ints, h)
is_nth After event (suc n) d h = is_nth After (event +ℤ pos 1) n d (omega (arith, ints, h))
is_nth Before event zero d h = omega (arith, ints, h)
is_nth Before event (suc n) d h = is_nth Before (event -ℤ pos 1) n d (omega (arith, ints, h))

expiry_is : RolledIsNearest → (c : DaysView) (event : ℤ) (n : ℕ) (direction : Direction) (last : ℤ) → expiry_of c event n direction ≡ Some last → IsExpiry c event n direction last
expiry_is law c event n direction last h = record {
  nth = counted_from event n direction;
  counted = is_nth direction event n (counted_from event n direction) refl;
  nearest = (law c (counted_from event n direction) last direction).0 h;
}

is_expiry : RolledIsNearest → (c : DaysView) (event : ℤ) (n : ℕ) (direction : Direction) (last : ℤ) → IsExpiry c event n direction last → expiry_of c event n direction ≡ Some last
is_expiry law c event n direction last h =
    ap (λ d. rolled c d direction) (sym (nth_is direction event n h.nth h.counted)) ∙ (law c h.nth last direction).1 h.nearest

pub last_day_law : RolledIsNearest → LastDayIsCounted
unfolding last_day_of
last_day_law law c event n direction false last = (expiry_is law c event n direction last, is_expiry law c event n direction last)
last_day_law law c event n direction true last = (
  λ h. let both = found_twice (λ e. expiry_of c e 3 After) (expiry_of c event n direction) last h in
      record {
        expiry = both.0;
        otherwise = expiry_is law c event n direction both.0 both.1.0;
        three_more = expiry_is law c both.0 3 After last both.1.1;
      },
  λ h. ap (option_and_then (λ e. expiry_of c e 3 After)) (is_expiry law c event n direction h.expiry h.otherwise)
      ∙ is_expiry law c h.expiry 3 After last h.three_more,
)
