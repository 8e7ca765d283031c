-- The clock's offset changes only at a transition of its zone or at the end of a year of UTC.
use Rattle.std.proofs.Common.{◌≡◌, ◌⊎◌, inl, inr, ℤ, pos, neg_ℤ, ◌≤ℤ◌, ◌<ℤ◌, int_le, int_lt, true, ◌&&◌, Option, Some, None, IfSome, refl, ap, arith, if◌then◌else◌}
use Rattle.std.proofs.lemmas.Int.{ints}
use Rattle.std.proofs.lemmas.Bool.{cases_Bool}
use Rattle.std.specs.Int.{int_div_euclid}
use Rattle.jiff_core.proofs.SignedLemmas.{signed_arith, int_div_euclid-parts}
use Rattle.jiff_core.specs.Timestamp.{nanos_of_seconds, IsTimestampNanos}
use Rattle.jiff_tz.specs.PosixRule.{match_some, utc_window, in_window, ordered, transition_of, next_by, next_at as next_of_rule, dst_info, std_info}
use Rattle.jiff_tz.specs.PosixRule as PosixRule
use Rattle.jiff_tz.specs.Year.{year_of_day, year_of_nanos}
use Rattle.jiff_tz.specs.Zone.{offset_at, next_at}
use Rattle.jiff_tz.specs.declared.info.OffsetInfo.{OffsetInfo}
use Rattle.jiff_tz.specs.declared.timezone.TimeZone.{TimeZone}
use Rattle.jiff_tz.specs.declared.timezone.TimeZone.TheVariants.{UTC, Unknown, Fixed, Posix, Tzif}
use Rattle.jiff_tz.specs.declared.posix.TimeZone.{TimeZone as Rule}
use Rattle.jiff_tz.specs.declared.posix.Dst.{Dst}
use Rattle.court_clock.specs.Clock.{IsInstantSecond, is_ruled, offset_seconds}

-- the zone has no daylight saving time
abbrev pub HasOneOffset : TimeZone → Type 0
HasOneOffset UTC = Unit {0}
HasOneOffset Unknown = Unit {0}
HasOneOffset (Fixed offset) = Unit {0}
HasOneOffset (Posix rule) = rule.dst ≡ None
HasOneOffset (Tzif table) = Unit {0}

-- neither end of the window is after the first moment and at or before the second
record NoEndBetween (w : ℤ × ℤ) (n m : ℤ) : Type 0 where
  first : (n <ℤ w.0 → m <ℤ w.0)
  second : (n <ℤ w.1 → m <ℤ w.1)

-- both moments are in the window, or neither is
same_side : (w : ℤ × ℤ) (n m : ℤ) → n ≤ℤ m → NoEndBetween w n m → in_window w m ≡ in_window w n
same_side w n m h none =
    let first : int_le w.0 m ≡ int_le w.0 n = grind (arith, ints, none.first) in
    let second : int_lt m w.1 ≡ int_lt n w.1 = grind (arith, ints, none.second) in
    let third : int_le w.1 m ≡ int_le w.1 n = grind (arith, ints, none.second) in
    let fourth : int_lt m w.0 ≡ int_lt n w.0 = grind (arith, ints, none.first) in
    rw (first, second, third, fourth) refl

-- the transition, if there is one, comes after the moment
abbrev pub ComesAfter : ℤ → Option (ℤ × OffsetInfo) → Type 0
ComesAfter m next = IfSome next (λ t. m <ℤ t.0)

-- a transition that is no instant comes after every instant
before_transition : (rule : Rule) (d : Dst) (w : ℤ × ℤ) (e n m : ℤ) → n <ℤ e → IsTimestampNanos n → IsTimestampNanos m → ComesAfter m (transition_of rule d w e) → m <ℤ e
before_transition rule d w e n m later low high next =
    elim (cases_Bool (int_le (neg_ℤ (pos 377_705_023_201_000_000_000)) e && int_le e (pos 253_402_207_200_999_999_999))) [
      | inl instant ↦ rw instant at next
      | inr beyond ↦ grind (arith, ints, beyond, later, low.0, high.1)
    ]

-- the ends of a window in order
ordered_ends : (w : ℤ × ℤ) → (((ordered w).0 ≡ w.0) × ((ordered w).1 ≡ w.1) × (w.0 ≤ℤ w.1)) ⊎ (((ordered w).0 ≡ w.1) × ((ordered w).1 ≡ w.0) × (w.1 ≤ℤ w.0))
ordered_ends w = elim (cases_Bool (int_le w.0 w.1)) [
  | inl before ↦ inl (rw before refl, rw before refl, omega (arith, ints, before))
  | inr after ↦ inr (rw after refl, rw after refl, omega (arith, ints, after))
]

-- up to the next transition of its year, a moment passes no end of the window
passes_no_end : (rule : Rule) (d : Dst) (w : ℤ × ℤ) (rest : Option (ℤ × OffsetInfo)) (n m : ℤ) → IsTimestampNanos n → IsTimestampNanos m → ComesAfter m (if int_lt n (ordered w).0 then transition_of rule d w (ordered w).0 else (if int_lt n (ordered w).1 then transition_of rule d w (ordered w).1 else rest)) → NoEndBetween w n m
passes_no_end rule d w rest n m low high next = elim (cases_Bool (int_lt n (ordered w).0)) [
  | inl first ↦
      let at_first : ComesAfter m (transition_of rule d w (ordered w).0) = rw first at next in
      let before : m <ℤ (ordered w).0 = before_transition rule d w (ordered w).0 n m (omega (arith, ints, first)) low high at_first in
      elim (ordered_ends w) [
        | inl same ↦ record { first = λ _. omega (arith, ints, before, same.0); second = λ _. omega (arith, ints, before, same.0, same.2) }
        | inr turned ↦ record { first = λ _. omega (arith, ints, before, turned.0, turned.2); second = λ _. omega (arith, ints, before, turned.0) }
      ]
  | inr past ↦
      let not_first : ComesAfter m (if int_lt n (ordered w).1 then transition_of rule d w (ordered w).1 else rest) = rw past at next in
      elim (cases_Bool (int_lt n (ordered w).1)) [
        | inl second ↦
            let at_second : ComesAfter m (transition_of rule d w (ordered w).1) = rw second at not_first in
            let before : m <ℤ (ordered w).1 = before_transition rule d w (ordered w).1 n m (omega (arith, ints, second)) low high at_second in
            elim (ordered_ends w) [
              | inl same ↦ record { first = λ h. absurd (omega (arith, ints, past, same.0, h)); second = λ _. omega (arith, ints, before, same.1) }
              | inr turned ↦ record { first = λ _. omega (arith, ints, before, turned.1); second = λ h. absurd (omega (arith, ints, past, turned.0, h)) }
            ]
        | inr behind ↦ elim (ordered_ends w) [
          | inl same ↦ record { first = λ h. absurd (omega (arith, ints, past, same.0, h)); second = λ h. absurd (omega (arith, ints, behind, same.1, h)) }
          | inr turned ↦ record { first = λ h. absurd (omega (arith, ints, behind, turned.1, h)); second = λ h. absurd (omega (arith, ints, past, turned.0, h)) }
        ]
      ]
]

-- the offset of a rule stays up to its next transition, within one year of UTC
rule_steady : (rule : Rule) (n m : ℤ) → n ≤ℤ m → year_of_nanos m ≡ year_of_nanos n → IsTimestampNanos n → IsTimestampNanos m → ComesAfter m (next_of_rule rule n) → PosixRule.offset_at rule m ≡ PosixRule.offset_at rule n
rule_steady rule n m h year low high = dst_steady rule.dst
  where
    dst_steady : (dst : Option Dst) → ComesAfter m (match_some dst None (λ d. next_by rule d (year_of_nanos n) n)) → match_some (PosixRule.dst_at_by rule.std_offset dst m) rule.std_offset (λ d. d.offset) ≡ match_some (PosixRule.dst_at_by rule.std_offset dst n) rule.std_offset (λ d. d.offset)
    dst_steady None next = refl
    dst_steady (Some d) next =
        let w : ℤ × ℤ = utc_window d (year_of_nanos n) rule.std_offset in
        let side : in_window w m ≡ in_window w n = same_side w n m h (passes_no_end rule d w (PosixRule.next_year rule d (year_of_nanos n)) n m low high next) in
        rw (year, side) refl

-- a zone with one offset has it always
pub one_offset : (zone : TimeZone) (t u : ℤ) → is_ruled zone ≡ true → HasOneOffset zone → offset_seconds zone t ≡ offset_seconds zone u
unfolding offset_at
one_offset UTC t u ruled one = refl
one_offset Unknown t u ruled one = refl
one_offset (Fixed offset) t u ruled one = refl
one_offset (Posix rule) t u ruled one = rw one refl
one_offset (Tzif table) t u ruled one = absurd cc

-- a moment has the same day in nanoseconds and in seconds
day_of_nanos : (t : ℤ) → int_div_euclid (nanos_of_seconds t) (pos 86_400_000_000_000) ≡ int_div_euclid t (pos 86_400)
day_of_nanos t = omega (arith, signed_arith, int_div_euclid-parts (nanos_of_seconds t) 86_400_000_000_000 (omega arith), int_div_euclid-parts t 86_400 (omega arith))

zone_steady : (zone : TimeZone) (now t : ℤ) → is_ruled zone ≡ true → now ≤ℤ t → year_of_day (int_div_euclid t (pos 86_400)) ≡ year_of_day (int_div_euclid now (pos 86_400)) → IsTimestampNanos (nanos_of_seconds now) → IsTimestampNanos (nanos_of_seconds t) → ComesAfter (nanos_of_seconds t) (next_at zone (nanos_of_seconds now)) → offset_seconds zone t ≡ offset_seconds zone now
unfolding offset_at next_at
zone_steady UTC now t ruled h day low high next = refl
zone_steady Unknown now t ruled h day low high next = refl
zone_steady (Fixed offset) now t ruled h day low high next = refl
zone_steady (Posix rule) now t ruled h day low high next =
    let year : year_of_nanos (nanos_of_seconds t) ≡ year_of_nanos (nanos_of_seconds now) = rw (day_of_nanos t, day_of_nanos now) day in
    ap (λ o. o.seconds) (rule_steady rule (nanos_of_seconds now) (nanos_of_seconds t) (omega (arith, ints, h)) year low high next)
zone_steady (Tzif table) now t ruled h day low high next = absurd cc

-- the clock's offset stays up to the next transition, within one year of UTC
pub steady : (zone : TimeZone) (now t : ℤ) → is_ruled zone ≡ true → IsInstantSecond now → now ≤ℤ t → t ≤ℤ pos 9_720_000_000 → year_of_day (int_div_euclid t (pos 86_400)) ≡ year_of_day (int_div_euclid now (pos 86_400)) → ComesAfter (nanos_of_seconds t) (next_at zone (nanos_of_seconds now)) → offset_seconds zone t ≡ offset_seconds zone now
steady zone now t ruled instant low high day next =
    zone_steady zone now t ruled low day (omega (arith, ints, instant.low), omega (arith, ints, instant.high)) (omega (arith, ints, instant.low, low), omega (arith, ints, high)) next
