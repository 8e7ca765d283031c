-- That no end comes before the earliest, which is one of them.
use Rattle.std.proofs.Common.{◌≡◌, ◌⊎◌, inl, inr, ℤ, Bool, true, false, List, [], ◌∷◌, fold, map, Option, Some, None, IfSome, refl, arith}
use Rattle.std.specs.Prelude.{⊤}
use Rattle.std.proofs.lemmas.Bool.{cases_Bool}
use Rattle.std.proofs.lemmas.Int.{ints}
use Rattle.court_clock.specs.Words.{ClockView}
use Rattle.rule6.specs.declared.timeliness.Shown.{Shown}
use Rattle.rule6.specs.declared.timeliness.Shown.TheVariants.{Last, Until, Beyond}
use Rattle.reason_notes.specs.declared.readings.reading.Reading.{Reading}
use Rattle.reason_notes.specs.declared.readings.reading.Reading.TheVariants.{OutageMovesNothing, OutageMovesService, ExtendedFromMovedDay, OutageBeforeAddedDays, HoursFromEndOfDay, FridayIsOpen, DoubtfulIsOpen}
use Rattle.reason_notes.specs.Margins.Ends.{end_day}
use Rattle.reason_notes.specs.Readings.Earlier.{earlier_of, is_earlier, is_earlier_by_day, is_earlier_on_day}
use Rattle.reason_notes.specs.Readings.Others.{all_readings, earliest_of}

-- one before another that is before a third is before the third
on_day_on : (a b c : Shown) → is_earlier_on_day a b ≡ true → is_earlier_on_day b c ≡ true → is_earlier_on_day a c ≡ true
on_day_on (Until t) (Until u) (Until v) ab bc = grind (arith, ints)
on_day_on (Until t) b (Last d act) ab bc = refl
on_day_on (Until t) b Beyond ab bc = refl
on_day_on (Until t) (Last d act) (Until v) ab bc = absurd cc
on_day_on (Until t) Beyond (Until v) ab bc = absurd cc
on_day_on (Last d act) b c ab bc = absurd cc
on_day_on Beyond b c ab bc = absurd cc

-- one not before another that is not before a third is not before the third
on_day_off : (a b c : Shown) → is_earlier_on_day a b ≡ false → is_earlier_on_day b c ≡ false → is_earlier_on_day a c ≡ false
on_day_off (Until t) (Until u) (Until v) ab bc = grind (arith, ints)
on_day_off (Until t) (Until u) (Last d act) ab bc = absurd cc
on_day_off (Until t) (Until u) Beyond ab bc = absurd cc
on_day_off (Until t) (Last d act) c ab bc = absurd cc
on_day_off (Until t) Beyond c ab bc = absurd cc
on_day_off (Last d act) b c ab bc = refl
on_day_off Beyond b c ab bc = refl

by_day_on : (a b c : Option ℤ) (ab bc ac : Bool) → (ab ≡ true → bc ≡ true → ac ≡ true) → is_earlier_by_day a b ab ≡ true → is_earlier_by_day b c bc ≡ true → is_earlier_by_day a c ac ≡ true
by_day_on (Some d) (Some e) (Some f) true true true on first second = grind (arith, ints)
by_day_on (Some d) (Some e) (Some f) true true false on first second = absurd cc (on refl refl)
by_day_on (Some d) (Some e) (Some f) true false ac on first second = grind (arith, ints)
by_day_on (Some d) (Some e) (Some f) false bc ac on first second = grind (arith, ints)
by_day_on (Some d) (Some e) None ab bc ac on first second = refl
by_day_on (Some d) None c ab bc ac on first second = absurd cc
by_day_on None b c ab bc ac on first second = absurd cc

by_day_off : (a b c : Option ℤ) (ab bc ac : Bool) → (ab ≡ false → bc ≡ false → ac ≡ false) → is_earlier_by_day a b ab ≡ false → is_earlier_by_day b c bc ≡ false → is_earlier_by_day a c ac ≡ false
by_day_off (Some d) (Some e) (Some f) false false false off first second = grind (arith, ints)
by_day_off (Some d) (Some e) (Some f) false false true off first second = absurd cc (off refl refl)
by_day_off (Some d) (Some e) (Some f) false true ac off first second = grind (arith, ints)
by_day_off (Some d) (Some e) (Some f) true bc ac off first second = grind (arith, ints)
by_day_off (Some d) (Some e) None ab bc ac off first second = absurd cc
by_day_off (Some d) None c ab bc ac off first second = absurd cc
by_day_off None b c ab bc ac off first second = refl

before_on : (clock : ClockView) (a b c : Shown) → is_earlier clock a b ≡ true → is_earlier clock b c ≡ true → is_earlier clock a c ≡ true
before_on clock a b c = by_day_on (end_day clock a) (end_day clock b) (end_day clock c) (is_earlier_on_day a b) (is_earlier_on_day b c) (is_earlier_on_day a c) (on_day_on a b c)

before_off : (clock : ClockView) (a b c : Shown) → is_earlier clock a b ≡ false → is_earlier clock b c ≡ false → is_earlier clock a c ≡ false
before_off clock a b c = by_day_off (end_day clock a) (end_day clock b) (end_day clock c) (is_earlier_on_day a b) (is_earlier_on_day b c) (is_earlier_on_day a c) (on_day_off a b c)

-- no end is before itself
on_day_self : (a : Shown) → is_earlier_on_day a a ≡ false
on_day_self (Until t) = grind (arith, ints)
on_day_self (Last d act) = refl
on_day_self Beyond = refl

by_day_self : (a : Option ℤ) (on_day : Bool) → on_day ≡ false → is_earlier_by_day a a on_day ≡ false
by_day_self (Some d) false off = grind (arith, ints)
by_day_self (Some d) true off = absurd cc
by_day_self None on_day off = refl

before_self : (clock : ClockView) (a b : Shown) → Some a ≡ Some b → is_earlier clock a b ≡ false
before_self clock a b same =
    let is : a ≡ b = cc in
    rw is (by_day_self (end_day clock b) (is_earlier_on_day b b) (on_day_self b))

-- an end, if there is one, isn't before another; and none of some is
abbrev NotBefore : ClockView → (end : Shown) → Option Shown → Type 0
NotBefore clock end other = IfSome other (λ o. is_earlier clock o end ≡ false)

abbrev pub NoneBefore : ClockView → (end : Shown) → List (Option Shown) → Type 0
NoneBefore clock end [] = ⊤
NoneBefore clock end (other ∷ others) = NotBefore clock end other × NoneBefore clock end others

-- an end that comes before the one found takes its place
replaced : (clock : ClockView) (found other : Shown) (others : List (Option Shown)) (end : Shown) → is_earlier clock other found ≡ true → NoneBefore clock end (Some other ∷ others) → NoneBefore clock end (Some found ∷ Some other ∷ others)
replaced clock found other others end before least = elim (cases_Bool (is_earlier clock found end)) [
  | inl sooner ↦ (let both : is_earlier clock other end ≡ true = before_on clock other found end before sooner in absurd cc)
  | inr later ↦ (later, least)
]

least_with : (clock : ClockView) (found : Shown) (others : List (Option Shown)) (end : Shown) → fold (earlier_of clock) (Some found) others ≡ Some end → NoneBefore clock end (Some found ∷ others)
least_with clock found [] end is = (before_self clock found end is, tt)
least_with clock found (None ∷ others) end is =
    let least = least_with clock found others end is in
    (least.0, (tt, least.1))
least_with clock found (Some other ∷ others) end is = elim (cases_Bool (is_earlier clock other found)) [
  | inl before ↦ replaced clock found other others end before (least_with clock other others end (rw before at is))
  | inr after ↦
      let least = least_with clock found others end (rw after at is) in
      (least.0, (before_off clock other found end after least.0, least.1))
]

least_of : (clock : ClockView) (others : List (Option Shown)) (end : Shown) → earliest_of clock others ≡ Some end → NoneBefore clock end others
least_of clock [] end is = absurd cc
least_of clock (None ∷ others) end is = (tt, least_of clock others end is)
least_of clock (Some other ∷ others) end is = least_with clock other others end is

-- what a reading gives isn't before the earliest
not_before : (clock : ClockView) (end : Shown) (given : Option Shown) (other : Shown) → NotBefore clock end given → given ≡ Some other → is_earlier clock other end ≡ false
not_before clock end None other not is = absurd cc
not_before clock end (Some o) other not is =
    let same : o ≡ other = cc in
    rw same at not

abbrev of_all : ClockView → (gives : Reading → Option Shown) → Shown → Type 0
of_all clock gives end = NoneBefore clock end (map gives all_readings)

by_each : (clock : ClockView) (gives : Reading → Option Shown) (end : Shown) → of_all clock gives end → (reading : Reading) → NotBefore clock end (gives reading)
by_each clock gives end all OutageMovesNothing = all.0
by_each clock gives end all OutageMovesService = all.1.0
by_each clock gives end all ExtendedFromMovedDay = all.1.1.0
by_each clock gives end all OutageBeforeAddedDays = all.1.1.1.0
by_each clock gives end all HoursFromEndOfDay = all.1.1.1.1.0
by_each clock gives end all FridayIsOpen = all.1.1.1.1.1.0
by_each clock gives end all DoubtfulIsOpen = all.1.1.1.1.1.1.0

pub none_before : (clock : ClockView) (gives : Reading → Option Shown) (end : Shown) → earliest_of clock (map gives all_readings) ≡ Some end → (reading : Reading) (other : Shown) → gives reading ≡ Some other → is_earlier clock other end ≡ false
none_before clock gives end is reading other gives_it =
    not_before clock end (gives reading) other (by_each clock gives end (least_of clock (map gives all_readings) end is) reading) gives_it

-- of two ends that there may be the earlier is one
one_of_two : (clock : ClockView) (first second : Option Shown) (end : Shown) → earlier_of clock first second ≡ Some end → (first ≡ Some end) ⊎ (second ≡ Some end)
one_of_two clock None second end is = inr is
one_of_two clock (Some a) None end is = inl is
one_of_two clock (Some a) (Some b) end is = elim (cases_Bool (is_earlier clock b a)) [
  | inl before ↦ inr (rw before at is)
  | inr after ↦ inl (rw after at is)
]

-- and the earliest of all is what was found or what a reading gives
found_or_given : (clock : ClockView) (gives : Reading → Option Shown) (found : Option Shown) (readings : List Reading) (end : Shown) → fold (earlier_of clock) found (map gives readings) ≡ Some end → (found ≡ Some end) ⊎ ((reading : Reading) × (gives reading ≡ Some end))
found_or_given clock gives found [] end is = inl is
found_or_given clock gives found (reading ∷ readings) end is = elim (found_or_given clock gives (earlier_of clock found (gives reading)) readings end is) [
  | inl kept ↦ elim (one_of_two clock found (gives reading) end kept) [
    | inl before ↦ inl before
    | inr here ↦ inr (reading, here)
  ]
  | inr given ↦ inr given
]

pub given_by : (clock : ClockView) (gives : Reading → Option Shown) (end : Shown) → earliest_of clock (map gives all_readings) ≡ Some end → (reading : Reading) × (gives reading ≡ Some end)
given_by clock gives end is = elim (found_or_given clock gives None all_readings end is) [
  | inl none ↦ absurd cc
  | inr given ↦ given
]
