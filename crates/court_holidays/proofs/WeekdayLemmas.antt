-- A weekday of a month is found where it's counted.
use Rattle.std.proofs.lemmas.Int.{by_lt_z}
use Rattle.std.proofs.Common.{unsigned_abs, negsuc, ◌≡◌, ◌+◌, ◌-◌, ◌*◌, ◌%◌, ◌<◌, ◌≤◌, ℕ, ℤ, pos, ◌+ℤ◌, ◌-ℤ◌, ◌≤ℤ◌, arith, refl, sym, ◌∙◌}
use Rattle.jiff_core.specs.declared.civil.weekday.Weekday.{Weekday}
use Rattle.jiff_core.specs.declared.civil.weekday.Weekday.TheVariants.{Monday, Tuesday, Wednesday, Thursday, Friday, Saturday, Sunday}
use Rattle.jiff_core.specs.Weekday.{monday_zero}
use Rattle.jiff_core.specs.Calendar.{days_from_civil, days_in_month, weekday_number}
use Rattle.jiff_core.proofs.SignedLemmas.{signed_arith}
use Rattle.jiff_core.proofs.CalendarLemmas.{days_in_month_bounds, weekday_number-add, weekday_number_bound}
use Rattle.jiff_core.proofs.DateLemmas.{days_from_civil-day}
use Rattle.court_clock.specs.Words.{weekday_of}
use Rattle.court_holidays.specs.Weekdays.{nth_weekday, last_weekday, WeekdaysAreCounted, LastWeekdaysAreLast}

pub same_weekday : (d : ℤ) → weekday_number d ≡ weekday_of d
unfolding weekday_number
same_weekday d = refl

pub monday_zero_bound : (w : Weekday) → monday_zero w < 7
monday_zero_bound Monday = omega arith
monday_zero_bound Tuesday = omega arith
monday_zero_bound Wednesday = omega arith
monday_zero_bound Thursday = omega arith
monday_zero_bound Friday = omega arith
monday_zero_bound Saturday = omega arith
monday_zero_bound Sunday = omega arith

-- the day with the weekday in the week that ends on a last day
last_sum : (a b : ℤ) (k back today w : ℕ) → back < 7 → a ≡ b +ℤ pos back → today ≡ (w + back) % 7 → w < 7 → a -ℤ pos ((today + 7 - w) % 7) ≡ b
last_sum a b k back today w near place moved bound = omega (arith, signed_arith)

nonneg_abs : (z : ℤ) → pos 0 ≤ℤ z → pos (unsigned_abs z) ≡ z
nonneg_abs (pos n) h = refl
nonneg_abs (negsuc n) h = absurd (omega (arith, signed_arith, h))

-- the length of a month in days
month_span : (y : ℤ) (m : ℕ) → days_from_civil y m (days_in_month y m) +ℤ pos 1 ≡ days_from_civil y m 1 +ℤ pos (days_in_month y m)
month_span y m =
    let long = days_in_month_bounds y m in
    sym (days_from_civil-day y m 1 (days_in_month y m) (omega arith) (omega (arith, long.1)))

nth_only : (a r : ℤ) (n k today w : ℕ) → 1 ≤ n → r ≡ a +ℤ pos (k + 7 * (n - 1)) → k < 7 → w ≡ (today + (k + 7 * (n - 1))) % 7 → today < 7 → (a +ℤ pos ((w + 7 - today) % 7)) +ℤ pos (7 * (n - 1)) ≡ r
nth_only a r n k today w one place near moved bound =
    let week : w ≡ (today + k) % 7 = omega (arith, moved) in
    omega (arith, signed_arith, week, place, near, bound)

nth_moves : (today w n : ℕ) → today < 7 → w < 7 → (today + ((w + 7 - today) % 7 + 7 * (n - 1))) % 7 ≡ w
nth_moves today w n bound week = omega arith

pub weekdays_are_counted : WeekdaysAreCounted
unfolding nth_weekday
weekdays_are_counted n w m y r one four = (
  (λ is.
      let start : ℤ = days_from_civil y m 1 in
      let k : ℕ = (monday_zero w + 7 - weekday_of start) % 7 in
      let near : k < 7 = omega arith in
      let span = month_span y m in
      let long = days_in_month_bounds y m in
      let place : r ≡ start +ℤ pos (k + 7 * (n - 1)) = sym is ∙ omega (arith, signed_arith) in
      let moved = weekday_number-add start r (k + 7 * (n - 1)) place in
      let moved' : weekday_of r ≡ (weekday_of start + (k + 7 * (n - 1))) % 7 = rw (same_weekday r, same_weekday start) at moved in
      let bound : weekday_of start < 7 = rw (same_weekday start) at (weekday_number_bound start) in
      record {
        weekday = moved' ∙ nth_moves (weekday_of start) (monday_zero w) n bound (monday_zero_bound w);
        in_month = record {
          from_its_first = omega (arith, signed_arith, place);
          to_its_last = omega (arith, signed_arith, place, span, long.1, near, four);
        };
        earlier = record {
          from_its_first = omega (arith, signed_arith, place, one);
          to_its_last = omega (arith, signed_arith, place, span, long.1, near, four);
        };
        no_more = λ more. let low = more.from_its_first in omega (arith, signed_arith, place, low, near, one);
      }),
  (λ h.
      let start : ℤ = days_from_civil y m 1 in
      let low = h.earlier.from_its_first in
      let high = h.in_month.to_its_last in
      let k : ℕ = unsigned_abs (r -ℤ pos (7 * (n - 1)) -ℤ start) in
      let whole = nonneg_abs (r -ℤ pos (7 * (n - 1)) -ℤ start) (omega (arith, signed_arith, low)) in
      let place : r ≡ start +ℤ pos (k + 7 * (n - 1)) = omega (arith, signed_arith, whole) in
      let near : k < 7 = by_lt_z (r -ℤ pos (7 * n)) start
      (λ lt. omega (arith, signed_arith, lt, place, one))
      (λ le. absurd (h.no_more record { from_its_first = le; to_its_last = omega (arith, signed_arith, high) })) in
      let moved = weekday_number-add start r (k + 7 * (n - 1)) place in
      let moved' : weekday_of r ≡ (weekday_of start + (k + 7 * (n - 1))) % 7 = rw (same_weekday r, same_weekday start) at moved in
      let bound : weekday_of start < 7 = rw (same_weekday start) at (weekday_number_bound start) in
      nth_only start r n k (weekday_of start) (monday_zero w) one place near (sym h.weekday ∙ moved') bound),
)

last_moves : (today w back : ℕ) → today < 7 → w < 7 → back ≡ (today + 7 - w) % 7 → (u : ℕ) → u < 7 → today ≡ (u + back) % 7 → u ≡ w
last_moves today w back bound week is u small moved = omega arith

pub last_weekdays_are_last : LastWeekdaysAreLast
unfolding last_weekday
last_weekdays_are_last w m y r = (
  (λ is.
      let end : ℤ = days_from_civil y m (days_in_month y m) in
      let back : ℕ = (weekday_of end + 7 - monday_zero w) % 7 in
      let near : back < 7 = omega arith in
      let span = month_span y m in
      let long = days_in_month_bounds y m in
      let place : end ≡ r +ℤ pos back = omega (arith, signed_arith, is) in
      let moved = weekday_number-add r end back place in
      let moved' : weekday_of end ≡ (weekday_of r + back) % 7 = rw (same_weekday r, same_weekday end) at moved in
      let bound : weekday_of end < 7 = rw (same_weekday end) at (weekday_number_bound end) in
      let here : weekday_of r < 7 = rw (same_weekday r) at (weekday_number_bound r) in
      record {
        weekday = last_moves (weekday_of end) (monday_zero w) back bound (monday_zero_bound w) refl (weekday_of r) here moved';
        in_month = record {
          from_its_first = omega (arith, signed_arith, place, span, long.1, near);
          to_its_last = omega (arith, signed_arith, place);
        };
        no_later = λ more. let high = more.to_its_last in omega (arith, signed_arith, place, high, near);
      }),
  (λ h.
      let end : ℤ = days_from_civil y m (days_in_month y m) in
      let low = h.in_month.from_its_first in
      let high = h.in_month.to_its_last in
      let back : ℕ = unsigned_abs (end -ℤ r) in
      let whole = nonneg_abs (end -ℤ r) (omega (arith, signed_arith, high)) in
      let place : end ≡ r +ℤ pos back = omega (arith, signed_arith, whole) in
      let near : back < 7 = by_lt_z end (r +ℤ pos 7)
      (λ lt. omega (arith, signed_arith, lt, place))
      (λ le. absurd (h.no_later record { from_its_first = omega (arith, signed_arith, low); to_its_last = le })) in
      let moved = weekday_number-add r end back place in
      let moved' : weekday_of end ≡ (weekday_of r + back) % 7 = rw (same_weekday r, same_weekday end) at moved in
      last_sum end r 0 back (weekday_of end) (monday_zero w) near place (rw h.weekday at moved') (monday_zero_bound w)),
)
