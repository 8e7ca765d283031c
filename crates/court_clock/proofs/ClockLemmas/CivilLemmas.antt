-- What the clock shows, and the instant of a civil time.
use Rattle.std.proofs.Common.{◌≡◌, ◌≢◌, ◌⊎◌, inl, inr, ℕ, ◌<◌, ℤ, pos, ◌-ℤ◌, ◌≤ℤ◌, int_le, true, false, Some, None, unsigned_abs, refl, sym, ◌∙◌, ap, arith}
use Rattle.std.proofs.lemmas.Int.{ints}
use Rattle.std.proofs.lemmas.Bool.{cases_Bool}
use Rattle.std.proofs.lemmas.Bool.Decides.{Decides-int_eq}
use Rattle.std.specs.Int.{int_div_euclid, int_rem_euclid}
use Rattle.std.specs.Ordering.{int_eq}
use Rattle.jiff_core.specs.Timestamp.{IsOffsetSeconds, nanos_of_seconds}
use Rattle.jiff_core.proofs.SignedLemmas.{signed_arith, int_div_euclid-parts, int_rem_euclid-parts}
use Rattle.jiff_tz.specs.PosixRule.{match_some, utc_window, in_window, dst_at}
use Rattle.jiff_tz.specs.Year.{year_of_nanos}
use Rattle.jiff_tz.specs.Zone.{offset_at}
use Rattle.jiff_tz.specs.declared.timezone.TimeZone.{TimeZone}
use Rattle.jiff_tz.specs.declared.timezone.TimeZone.TheVariants.{UTC, Unknown, Fixed, Posix, Tzif}
use Rattle.jiff_tz.specs.declared.posix.TimeZone.{TimeZone as Rule}
use Rattle.jiff_tz.specs.PosixRule as PosixRule
use Rattle.court_clock.specs.Clock.{CivilTime, shown_second, second_of, civil_time, is_ruled, standard_offset, daylight_offset, larger_offset, smaller_offset, instant_of, Shows, InstantsAreEarliest}

clash : false ≡ true → ⊥
clash h = cc

-- the instant by the larger offset is the answer where the clock then shows the civil time
pub takes_earlier : (zone : TimeZone) (day : ℤ) (second : ℕ) (w r : ℤ) → w ≡ second_of day second → r ≡ w -ℤ larger_offset zone → shown_second zone r ≡ w → r ≡ instant_of zone day second
unfolding instant_of
takes_earlier zone day second w r same is shown =
    let here : shown_second zone (second_of day second -ℤ larger_offset zone) ≡ second_of day second = rw (← same, ← is) shown in
    let test : int_eq (shown_second zone (second_of day second -ℤ larger_offset zone)) (second_of day second) ≡ true = (Decides-int_eq (shown_second zone (second_of day second -ℤ larger_offset zone)) (second_of day second)).1 here in
    rw (test, ← same) is

-- where it doesn't, the instant by the smaller offset is the answer
pub takes_later : (zone : TimeZone) (day : ℤ) (second : ℕ) (w e r : ℤ) → w ≡ second_of day second → e ≡ w -ℤ larger_offset zone → shown_second zone e ≢ w → r ≡ w -ℤ smaller_offset zone → r ≡ instant_of zone day second
unfolding instant_of
takes_later zone day second w e r same is other later =
    elim (cases_Bool (int_eq (shown_second zone (second_of day second -ℤ larger_offset zone)) (second_of day second))) [
      | inl shown ↦ absurd (other (rw (is, same) ((Decides-int_eq _ _).0 shown)))
      | inr not_shown ↦ rw (not_shown, ← same) later
    ]

-- the offset of a rule is one of its two
rule_offset : (rule : Rule) (n : ℤ) → ((PosixRule.offset_at rule n).seconds ≡ rule.std_offset.seconds) ⊎ ((PosixRule.offset_at rule n).seconds ≡ daylight_offset (Posix rule))
rule_offset rule n = elim rule.dst as (λ d. ((match_some (PosixRule.dst_at_by rule.std_offset d n) rule.std_offset (λ d. d.offset)).seconds ≡ rule.std_offset.seconds) ⊎ ((match_some (PosixRule.dst_at_by rule.std_offset d n) rule.std_offset (λ d. d.offset)).seconds ≡ match_some d rule.std_offset.seconds (λ d. d.offset.seconds))) [
  | None ↦ inl refl
  | Some d ↦ elim (cases_Bool (in_window (utc_window d (year_of_nanos n) rule.std_offset) n)) [
    | inl inside ↦ inr (rw inside refl)
    | inr outside ↦ inl (rw outside refl)
  ]
]

-- the offset at an instant is one of the zone's two
pub offset_is_one : (zone : TimeZone) (n : ℤ) → is_ruled zone ≡ true → (offset_at zone n ≡ standard_offset zone) ⊎ (offset_at zone n ≡ daylight_offset zone)
unfolding offset_at
offset_is_one UTC n h = inl refl
offset_is_one Unknown n h = inl refl
offset_is_one (Fixed offset) n h = inl refl
offset_is_one (Posix rule) n h = rule_offset rule n
offset_is_one (Tzif table) n h = absurd cc

-- the offset at an instant is in range
pub offset_in_range : (zone : TimeZone) (n : ℤ) → IsOffsetSeconds (offset_at zone n)
unfolding offset_at
offset_in_range UTC n = (omega (arith, ints), omega (arith, ints))
offset_in_range Unknown n = (omega (arith, ints), omega (arith, ints))
offset_in_range (Fixed offset) n = offset.in_range
offset_in_range (Posix rule) n = (PosixRule.offset_at rule n).in_range
offset_in_range (Tzif table) n = (Rattle.jiff_tz.specs.Tzif.offset_at table.now n).in_range

abbrev civil : ℤ → ℕ → CivilTime
civil day second = record { day = day; second = second }

same_civil_time : (a b : CivilTime) → a.day ≡ b.day → a.second ≡ b.second → a ≡ b
same_civil_time a b d s =
    let whole : civil a.day a.second ≡ civil b.day b.second = cc in
    whole

-- the clock shows a civil time exactly where it shows its second
pub shown_from_civil : (zone : TimeZone) (day : ℤ) (second : ℕ) (t : ℤ) → Shows zone day second t → shown_second zone t ≡ second_of day second
unfolding civil_time
shown_from_civil zone day second t h =
    let whole : int_div_euclid (shown_second zone t) (pos 86_400) ≡ day = ap (λ c. c.day) h in
    let rest : unsigned_abs (int_rem_euclid (shown_second zone t) (pos 86_400)) ≡ second = ap (λ c. c.second) h in
    omega (arith, signed_arith, int_rem_euclid-parts (shown_second zone t) 86_400 (omega arith), whole, rest)

pub civil_from_shown : (zone : TimeZone) (day : ℤ) (second : ℕ) (t : ℤ) → second < 86_400 → shown_second zone t ≡ second_of day second → Shows zone day second t
unfolding civil_time
civil_from_shown zone day second t below h =
    let whole : int_div_euclid (shown_second zone t) (pos 86_400) ≡ day = omega (arith, signed_arith, int_div_euclid-parts (shown_second zone t) 86_400 (omega arith), h) in
    let rest : unsigned_abs (int_rem_euclid (shown_second zone t) (pos 86_400)) ≡ second = omega (arith, signed_arith, int_rem_euclid-parts (shown_second zone t) 86_400 (omega arith), whole, h) in
    same_civil_time _ _ whole rest

-- one of the zone's two offsets is its larger or its smaller
larger_or_smaller : (zone : TimeZone) (o : ℤ) → (o ≡ standard_offset zone) ⊎ (o ≡ daylight_offset zone) → (o ≡ larger_offset zone) ⊎ (o ≡ smaller_offset zone)
larger_or_smaller zone o h = elim (cases_Bool (int_le (standard_offset zone) (daylight_offset zone))) [
  | inl behind ↦ elim h [ inl standard ↦ inr (rw behind standard) | inr daylight ↦ inl (rw behind daylight) ]
  | inr ahead ↦ elim h [ inl standard ↦ inl (rw ahead standard) | inr daylight ↦ inr (rw ahead daylight) ]
]

ordered_offsets : (zone : TimeZone) → smaller_offset zone ≤ℤ larger_offset zone
ordered_offsets zone = elim (cases_Bool (int_le (standard_offset zone) (daylight_offset zone))) [
  | inl behind ↦ rw behind (omega (arith, ints, behind))
  | inr ahead ↦ rw ahead (omega (arith, ints, ahead))
]

-- where the clock shows a second, it does so at one of the two candidates
candidates : (zone : TimeZone) (w t : ℤ) → is_ruled zone ≡ true → shown_second zone t ≡ w → (t ≡ w -ℤ larger_offset zone) ⊎ (t ≡ w -ℤ smaller_offset zone)
candidates zone w t ruled h = elim (larger_or_smaller zone _ (offset_is_one zone (nanos_of_seconds t) ruled)) [
  | inl larger ↦ inl (omega (arith, ints, h, larger))
  | inr smaller ↦ inr (omega (arith, ints, h, smaller))
]

-- the earlier candidate is the least, and the later one is the only other
pub instant_law : InstantsAreEarliest
instant_law zone day second ruled below =
    let w : ℤ = second_of day second in
    let early : ℤ = w -ℤ larger_offset zone in
    let late : ℤ = w -ℤ smaller_offset zone in
    elim (cases_Bool (int_eq (shown_second zone early) w)) [
      | inl test ↦
          let shown : shown_second zone early ≡ w = (Decides-int_eq _ _).0 test in
          let is : early ≡ instant_of zone day second = takes_earlier zone day second w early refl refl shown in
          rw (← is) (record {
            shown = λ _ _. civil_from_shown zone day second early below shown;
            earliest = λ t shows. elim (candidates zone w t ruled (shown_from_civil zone day second t shows)) [
              | inl same ↦ omega (arith, ints, same)
              | inr later ↦ omega (arith, ints, later, ordered_offsets zone)
            ];
            shifted = λ never. absurd (never early (civil_from_shown zone day second early below shown));
          })
      | inr test ↦
          let other : shown_second zone early ≢ w = λ shown. absurd (clash (sym test ∙ (Decides-int_eq _ _).1 shown)) in
          let is : late ≡ instant_of zone day second = takes_later zone day second w early late refl refl other refl in
          let only : (t : ℤ) → Shows zone day second t → t ≡ late = λ t shows. elim (candidates zone w t ruled (shown_from_civil zone day second t shows)) [
            | inl same ↦ absurd (other (rw (← same) (shown_from_civil zone day second t shows)))
            | inr same ↦ same
          ] in
          rw (← is) (record {
            shown = λ t shows. rw (← only t shows) shows;
            earliest = λ t shows. omega (arith, ints, only t shows);
            shifted = λ never. refl;
          })
    ]
