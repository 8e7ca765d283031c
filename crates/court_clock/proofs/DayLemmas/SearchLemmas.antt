-- What the search for the first of some days that passes a test finds.
use Rattle.std.proofs.Common.{◌≡◌, ℕ, zero, suc, ℤ, pos, ◌+ℤ◌, ◌-ℤ◌, ◌≤ℤ◌, ◌<ℤ◌, int_le, Bool, true, false, Some, refl, ◌∙◌, ap, arith, inl, inr}
use Rattle.std.proofs.lemmas.Int.{ints}
use Rattle.std.proofs.lemmas.Bool.{cases_Bool}
use Rattle.court_clock.specs.Day.Search.{first_passing, last_passing}

pub first_passing-fails : (test : ℤ → Bool) (n : ℕ) (d : ℤ) → test d ≡ false → first_passing test (suc n) d ≡ first_passing test n (d +ℤ pos 1)
unfolding first_passing
first_passing-fails test n d fails = rw fails refl

pub first_passing-passes : (test : ℤ → Bool) (n : ℕ) (d : ℤ) → test d ≡ true → first_passing test (suc n) d ≡ Some d
unfolding first_passing
first_passing-passes test n d passes = rw passes refl

pub last_passing-fails : (test : ℤ → Bool) (n : ℕ) (d : ℤ) → test d ≡ false → last_passing test (suc n) d ≡ last_passing test n (d -ℤ pos 1)
unfolding last_passing
last_passing-fails test n d fails = rw fails refl

pub last_passing-passes : (test : ℤ → Bool) (n : ℕ) (d : ℤ) → test d ≡ true → last_passing test (suc n) d ≡ Some d
unfolding last_passing
last_passing-passes test n d passes = rw passes refl

-- the first of n days from d on that passes
pub record IsFirst (test : ℤ → Bool) (n : ℕ) (d r : ℤ) : Type 0 where
  pub passes : test r ≡ true
  pub at_or_after : d ≤ℤ r
  pub within : r <ℤ (d +ℤ pos n)
  pub first : (e : ℤ) → d ≤ℤ e → e <ℤ r → test e ≡ false

-- the last of n days from d backward that passes
pub record IsLast (test : ℤ → Bool) (n : ℕ) (d r : ℤ) : Type 0 where
  pub passes : test r ≡ true
  pub at_or_before : r ≤ℤ d
  pub within : (d -ℤ pos n) <ℤ r
  pub last : (e : ℤ) → e ≤ℤ d → r <ℤ e → test e ≡ false

pub first_passing-is : (test : ℤ → Bool) (n : ℕ) (d r : ℤ) → first_passing test n d ≡ Some r → IsFirst test n d r
unfolding first_passing
first_passing-is test zero d r h = absurd cc
first_passing-is test (suc n) d r h = elim (cases_Bool (test d)) [
  | inl passes ↦
      let found : Some d ≡ Some r = rw passes at h in
      let same : d ≡ r = cc in
      record {
        passes = rw (← same) passes;
        at_or_after = omega (arith, ints, same);
        within = omega (arith, ints, same);
        first = λ e after before. absurd (omega (arith, ints, same, after, before));
      }
  | inr fails ↦
      let rest = first_passing-is test n (d +ℤ pos 1) r (rw fails at h) in
      record {
        passes = rest.passes;
        at_or_after = omega (arith, ints, rest.at_or_after);
        within = omega (arith, ints, rest.within);
        first = λ e after before. elim (cases_Bool (int_le e d)) [
          | inl same ↦ (let equal : e ≡ d = omega (arith, ints, after) in ap test equal ∙ fails)
          | inr later ↦ rest.first e (omega (arith, ints)) before
        ];
      }
]

pub first_passing-finds : (test : ℤ → Bool) (n : ℕ) (d r : ℤ) → IsFirst test n d r → first_passing test n d ≡ Some r
unfolding first_passing
first_passing-finds test zero d r h = absurd (omega (arith, ints, h.at_or_after, h.within))
first_passing-finds test (suc n) d r h = elim (cases_Bool (int_le r d)) [
  | inl here ↦
      let same : d ≡ r = omega (arith, ints, h.at_or_after) in
      let passes : test d ≡ true = rw same h.passes in
      rw passes (ap Some same)
  | inr later ↦
      let fails : test d ≡ false = h.first d (omega (arith, ints)) (omega (arith, ints)) in
      rw fails (first_passing-finds test n (d +ℤ pos 1) r record {
        passes = h.passes;
        at_or_after = omega (arith, ints);
        within = omega (arith, ints, h.within);
        first = λ e after before. h.first e (omega (arith, ints, after)) before;
      })
]

pub last_passing-is : (test : ℤ → Bool) (n : ℕ) (d r : ℤ) → last_passing test n d ≡ Some r → IsLast test n d r
unfolding last_passing
last_passing-is test zero d r h = absurd cc
last_passing-is test (suc n) d r h = elim (cases_Bool (test d)) [
  | inl passes ↦
      let found : Some d ≡ Some r = rw passes at h in
      let same : d ≡ r = cc in
      record {
        passes = rw (← same) passes;
        at_or_before = omega (arith, ints, same);
        within = omega (arith, ints, same);
        last = λ e before after. absurd (omega (arith, ints, same, before, after));
      }
  | inr fails ↦
      let rest = last_passing-is test n (d -ℤ pos 1) r (rw fails at h) in
      record {
        passes = rest.passes;
        at_or_before = omega (arith, ints, rest.at_or_before);
        within = omega (arith, ints, rest.within);
        last = λ e before after. elim (cases_Bool (int_le d e)) [
          | inl same ↦ (let equal : e ≡ d = omega (arith, ints, before) in ap test equal ∙ fails)
          | inr earlier ↦ rest.last e (omega (arith, ints)) after
        ];
      }
]

pub last_passing-finds : (test : ℤ → Bool) (n : ℕ) (d r : ℤ) → IsLast test n d r → last_passing test n d ≡ Some r
unfolding last_passing
last_passing-finds test zero d r h = absurd (omega (arith, ints, h.at_or_before, h.within))
last_passing-finds test (suc n) d r h = elim (cases_Bool (int_le d r)) [
  | inl here ↦
      let same : d ≡ r = omega (arith, ints, h.at_or_before) in
      let passes : test d ≡ true = rw same h.passes in
      rw passes (ap Some same)
  | inr earlier ↦
      let fails : test d ≡ false = h.last d (omega (arith, ints)) (omega (arith, ints)) in
      rw fails (last_passing-finds test n (d -ℤ pos 1) r record {
        passes = h.passes;
        at_or_before = omega (arith, ints);
        within = omega (arith, ints, h.within);
        last = λ e before after. h.last e (omega (arith, ints, before)) after;
      })
]
