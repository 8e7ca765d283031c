-- All values of a zone that one text names are one clock.
use Rattle.std.proofs.Common.{◌≡◌, ◌==◌, ℕ, ℤ, Bool, true, false, List, [], ◌∷◌, Option, Some, None, option_map, cond, pos, neg_ℤ, refl, sym, ◌∙◌, ap, ◌*◌, inl, inr}
use Rattle.std.proofs.lemmas.Bool.{cases_Bool}
use Rattle.std.proofs.lemmas.Option.{same_Some}
use Rattle.jiff_core.specs.declared.Offset.{Offset}
use Rattle.jiff_core.specs.Timestamp.{nanos_of_seconds}
use Rattle.jiff_tz.specs.PosixReader.{read_whole}
use Rattle.jiff_tz.specs.PosixRule.{dst_at_by, in_window, match_some, rule_nanos, utc_window}
use Rattle.jiff_tz.specs.PosixText.{TzText, day_time_view, dst_view, tz_view}
use Rattle.jiff_tz.specs.Year.{year_of_nanos}
use Rattle.jiff_tz.specs.Zone.{offset_at}
use Rattle.jiff_tz.specs.declared.posix.DayTime.{DayTime}
use Rattle.jiff_tz.specs.declared.posix.Dst.{Dst}
use Rattle.jiff_tz.specs.declared.posix.TimeZone.{TimeZone as Rule}
use Rattle.jiff_tz.specs.declared.timezone.TimeZone.{TimeZone}
use Rattle.jiff_tz.specs.declared.timezone.TimeZone.TheVariants.{UTC, Unknown, Fixed, Posix, Tzif}
use Rattle.court_clock.specs.Clock.Zone.{IsSameClock, TextsNameClocks, Zone, offset, offset_minutes, other, rule, zone_of_rule, zone_of_text, zone_view}

-- a moment that two rules name alike is one
nanos_alike : (y : ℤ) (a b : DayTime) (seconds : ℤ) → day_time_view a ≡ day_time_view b → rule_nanos y a seconds ≡ rule_nanos y b seconds
unfolding rule_nanos
nanos_alike y a b seconds same =
    let date : a.date ≡ b.date = ap (λ p. p.0) same in
    let time : a.time ≡ b.time = ap (λ p. p.1) same in
    rw (date, time) refl

-- daylight saving time that is written alike begins and ends alike
window_alike : (a b : Dst) (y : ℤ) (s t : Offset) → dst_view a ≡ dst_view b → s.seconds ≡ t.seconds → utc_window a y s ≡ utc_window b y t
unfolding utc_window
window_alike a b y s t same std =
    let seconds : a.offset.seconds ≡ b.offset.seconds = ap (λ v. v.seconds) same in
    let start = nanos_alike y a.rule.start b.rule.start t.seconds (ap (λ v. v.start) same) in
    let end = nanos_alike y a.rule.end b.rule.end b.offset.seconds (ap (λ v. v.finish) same) in
    rw (std, seconds, start, end) refl

-- rules that are written alike have the same offset
offset_alike : (s t : Offset) (a b : Option Dst) (n : ℤ) → s.seconds ≡ t.seconds → option_map dst_view a ≡ option_map dst_view b
    → (match_some (dst_at_by s a n) s (λ d. d.offset)).seconds ≡ (match_some (dst_at_by t b n) t (λ d. d.offset)).seconds
offset_alike s t None None n std same = std
offset_alike s t None (Some b) n std same = absurd (cc same)
offset_alike s t (Some a) None n std same = absurd (cc same)
offset_alike s t (Some a) (Some b) n std same =
    let views : dst_view a ≡ dst_view b = same_Some _ _ same in
    let window = window_alike a b (year_of_nanos n) s t views std in
    elim (cases_Bool (in_window (utc_window b (year_of_nanos n) t) n)) [
      | inl inside ↦ rw (window, inside) (ap (λ v. v.seconds) views)
      | inr outside ↦ rw (window, outside) std
    ]

daylight_alike : (s t : ℤ) (a b : Option Dst) → s ≡ t → option_map dst_view a ≡ option_map dst_view b → match_some a s (λ d. d.offset.seconds) ≡ match_some b t (λ d. d.offset.seconds)
daylight_alike s t None None std same = std
daylight_alike s t None (Some b) std same = absurd (cc same)
daylight_alike s t (Some a) None std same = absurd (cc same)
daylight_alike s t (Some a) (Some b) std same =
    let views : dst_view a ≡ dst_view b = same_Some _ _ same in
    ap (λ v. v.seconds) views

-- the zone that a rule says, if it says one
named_rule : Zone → TzText → TzText
named_rule (rule text) default = text
named_rule (offset seconds) default = default
named_rule other default = default

named_offset : Zone → ℤ → ℤ
named_offset (offset seconds) default = seconds
named_offset (rule text) default = default
named_offset other default = default

rules_alike : (a b : Rule) → tz_view a ≡ tz_view b → IsSameClock (Posix a) (Posix b)
unfolding offset_at
rules_alike a b same =
    let std : a.std_offset.seconds ≡ b.std_offset.seconds = ap (λ v. v.std_seconds) same in
    let dst : option_map dst_view a.dst ≡ option_map dst_view b.dst = ap (λ v. v.dst) same in
    record {
      offsets = λ t. offset_alike a.std_offset b.std_offset a.dst b.dst (nanos_of_seconds t) std dst;
      standard = std;
      daylight = daylight_alike a.std_offset.seconds b.std_offset.seconds a.dst b.dst std dst;
    }

-- no text names a zone of another kind
never_other : (text : List ℕ) → zone_of_text text ≡ Some other → ⊥
never_other [] h = no_rule (read_whole []) h
  where
    no_rule : (o : Option TzText) → option_map rule o ≡ Some other → ⊥
    no_rule None e = cc e
    no_rule (Some t) e = cc e
never_other (sign ∷ rest) h = by (sign == 43) (sign == 45) h
  where
    no_rule : (o : Option TzText) → option_map rule o ≡ Some other → ⊥
    no_rule None e = cc e
    no_rule (Some t) e = cc e

    no_offset : (f : ℕ → ℤ) (o : Option ℕ) → option_map (λ m. offset (f m)) o ≡ Some other → ⊥
    no_offset f None e = cc e
    no_offset f (Some m) e = cc e

    by : (p q : Bool) → cond p (option_map (λ m. offset (pos (60 * m))) (offset_minutes rest)) (cond q (option_map (λ m. offset (neg_ℤ (pos (60 * m)))) (offset_minutes rest)) (zone_of_rule (sign ∷ rest))) ≡ Some other → ⊥
    by true q e = no_offset (λ m. pos (60 * m)) (offset_minutes rest) e
    by false true e = no_offset (λ m. neg_ℤ (pos (60 * m))) (offset_minutes rest) e
    by false false e = no_rule (read_whole (sign ∷ rest)) e

clocks_alike : (a b : TimeZone) → zone_view a ≡ zone_view b → (zone_view a ≡ other → ⊥) → IsSameClock a b
unfolding offset_at named_rule named_offset
clocks_alike Unknown b same ruled = absurd (ruled refl)
clocks_alike (Tzif a) b same ruled = absurd (ruled refl)
clocks_alike UTC Unknown same ruled = absurd (ruled same)
clocks_alike UTC (Tzif b) same ruled = absurd (ruled same)
clocks_alike (Fixed a) Unknown same ruled = absurd (ruled same)
clocks_alike (Fixed a) (Tzif b) same ruled = absurd (ruled same)
clocks_alike (Posix a) Unknown same ruled = absurd (ruled same)
clocks_alike (Posix a) (Tzif b) same ruled = absurd (ruled same)
clocks_alike UTC UTC same ruled = record { offsets = λ t. refl; standard = refl; daylight = refl }
clocks_alike UTC (Fixed b) same ruled = let is : pos 0 ≡ b.seconds = ap (λ z. named_offset z (pos 0)) same in record { offsets = λ t. is; standard = is; daylight = is }
clocks_alike (Fixed a) UTC same ruled = let is : a.seconds ≡ pos 0 = ap (λ z. named_offset z (pos 0)) same in record { offsets = λ t. is; standard = is; daylight = is }
clocks_alike (Fixed a) (Fixed b) same ruled = let is : a.seconds ≡ b.seconds = ap (λ z. named_offset z (pos 0)) same in record { offsets = λ t. is; standard = is; daylight = is }
clocks_alike UTC (Posix b) same ruled = absurd (cc same)
clocks_alike (Fixed a) (Posix b) same ruled = absurd (cc same)
clocks_alike (Posix a) UTC same ruled = absurd (cc same)
clocks_alike (Posix a) (Fixed b) same ruled = absurd (cc same)
clocks_alike (Posix a) (Posix b) same ruled = rules_alike a b (ap (λ z. named_rule z (tz_view a)) same)

pub texts_name_clocks : TextsNameClocks
texts_name_clocks text a b first second =
    let same : zone_view a ≡ zone_view b = same_Some _ _ (sym first ∙ second) in
    clocks_alike a b same (λ is. never_other text (first ∙ ap Some is))
