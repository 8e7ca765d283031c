-- Where in its year each holiday is, and what follows: it is of that year, and no two share a day.
use Rattle.std.proofs.Common.{◌≡◌, ◌==◌, ◌+◌, ◌-◌, ◌*◌, ◌%◌, ◌<◌, ◌≤◌, ◌⊎◌, inl, inr, ℕ, ℤ, pos, ◌+ℤ◌, ◌-ℤ◌, ◌≤ℤ◌, int_le, int_lt, ◌&&◌, Bool, true, false, nat_le, Option, Some, None, if◌then◌else◌, arith, refl, ap, sym, ◌∙◌}
use Rattle.std.specs.Int.{IsInRange}
use Rattle.std.proofs.lemmas.Int.{ints}
use Rattle.jiff_core.specs.declared.civil.date.Date.{Date}
use Rattle.jiff_core.specs.declared.civil.weekday.Weekday.{Weekday}
use Rattle.jiff_core.specs.declared.civil.weekday.Weekday.TheVariants.{Monday, Thursday}
use Rattle.jiff_core.specs.Weekday.{monday_zero}
use Rattle.jiff_core.specs.Calendar.{days_from_civil, days_in_month, day_of_year, IsYear}
use Rattle.jiff_core.specs.Date.{epoch_day}
use Rattle.jiff_core.proofs.SignedLemmas.{signed_arith}
use Rattle.jiff_core.proofs.CalendarLemmas.{days_in_month_bounds, days_from_civil-day_count, day_count-day_of_year, day_of_year_bound, day_count-last_of_year}
use Rattle.jiff_core.proofs.DateLemmas.{civil, days_from_civil-day, epoch_day_injective}
use Rattle.court_clock.specs.Words.{weekday_of}
use Rattle.court_holidays.specs.declared.federal.statute.FederalHoliday.{FederalHoliday}
use Rattle.court_holidays.specs.declared.federal.statute.FederalHoliday.TheVariants.{NewYearsDay, BirthdayOfMartinLutherKingJr, InaugurationDay, WashingtonsBirthday, MemorialDay, Juneteenth, IndependenceDay, LaborDay, ColumbusDay, VeteransDay, ThanksgivingDay, ChristmasDay}
use Rattle.court_holidays.specs.Weekdays.{nth_weekday, last_weekday}
use Rattle.court_holidays.specs.Federal.Statute.{is_stated, is_inauguration_year, words_of, set_in, LaborDayIsAMonday, HolidaysLieInTheirYear, NoTwoShareADay}
use Rattle.court_holidays.proofs.WeekdayLemmas.{weekdays_are_counted}

-- the first and the last date that a holiday may have in a year, each as 32 times the month and the day of the month
abbrev pub low_key : FederalHoliday → ℕ
low_key NewYearsDay = 33
low_key BirthdayOfMartinLutherKingJr = 47
low_key InaugurationDay = 52
low_key WashingtonsBirthday = 79
low_key MemorialDay = 185
low_key Juneteenth = 211
low_key IndependenceDay = 228
low_key LaborDay = 289
low_key ColumbusDay = 328
low_key VeteransDay = 342
low_key ThanksgivingDay = 374
low_key ChristmasDay = 409

abbrev pub high_key : FederalHoliday → ℕ
high_key NewYearsDay = 33
high_key BirthdayOfMartinLutherKingJr = 53
high_key InaugurationDay = 53
high_key WashingtonsBirthday = 86
high_key MemorialDay = 191
high_key Juneteenth = 211
high_key IndependenceDay = 228
high_key LaborDay = 295
high_key ColumbusDay = 334
high_key VeteransDay = 363
high_key ThanksgivingDay = 380
high_key ChristmasDay = 409

-- the holiday has a date there
pub record IsPlaced (h : FederalHoliday) (y d : ℤ) : Type 0 where
  pub date : Date
  pub year : date.year ≡ y
  pub number : epoch_day date ≡ d
  pub low : low_key h ≤ 32 * date.month + date.day
  pub high : 32 * date.month + date.day ≤ high_key h

pub some_same : (a b : ℤ) → Some a ≡ Some b → a ≡ b
some_same a b h = cc

one_of : (test : Bool) (a b d : ℤ) → (if test then a else b) ≡ d → (a ≡ d) ⊎ (b ≡ d)
one_of true a b d h = inl h
one_of false a b d h = inr h

pub if_so : (test : Bool) (o : Option ℤ) (d : ℤ) → (if test then o else None) ≡ Some d → (test ≡ true) × (o ≡ Some d)
if_so true o d h = (refl, h)
if_so false o d h = absurd (cc)

unless : (test : Bool) (o : Option ℤ) (d : ℤ) → (if test then None else o) ≡ Some d → o ≡ Some d
unless true o d h = absurd (cc)
unless false o d h = h

stated_low : (y : ℤ) → is_stated y ≡ true → pos 1970 ≤ℤ y
stated_low y h = grind (arith, ints)

stated_high : (y : ℤ) → is_stated y ≡ true → y ≤ℤ pos 2199
stated_high y h = grind (arith, ints)

stated_year : (y : ℤ) → is_stated y ≡ true → IsYear y
stated_year y h =
    let low = stated_low y h in
    let high = stated_high y h in
    (omega (arith, signed_arith, low), omega (arith, signed_arith, high))

-- a day of a month
on_date : (h : FederalHoliday) (y : ℤ) (m k : ℕ) (d : ℤ) → is_stated y ≡ true → IsInRange 1 12 m → IsInRange 1 (days_in_month y m) k → low_key h ≤ 32 * m + k → 32 * m + k ≤ high_key h → days_from_civil y m k ≡ d → IsPlaced h y d
on_date h y m k d stated month day low high is =
    let date : Date = record { year = y; month = m; day = k; year_in = stated_year y stated; month_in = month; day_in = day } in
    record { date = date; year = refl; number = is; low = low; high = high }

-- each month has that day
in_each_month : (y : ℤ) (m k : ℕ) → 1 ≤ k → k ≤ 28 → IsInRange 1 (days_in_month y m) k
in_each_month y m k low high = let long = days_in_month_bounds y m in (low, omega (arith, long.1, high))

-- the nth of a weekday, by the day of the month
pub record IsFound (y : ℤ) (m low high : ℕ) (d : ℤ) : Type 0 where
  pub day : ℕ
  pub from : low ≤ day
  pub to : day ≤ high
  pub is : days_from_civil y m day ≡ d

nth_date : (y : ℤ) (m n : ℕ) (w : Weekday) → 1 ≤ n → IsFound y m (7 * n - 6) (7 * n) (nth_weekday n w m y)
unfolding nth_weekday
nth_date y m n w one =
    let start : ℤ = days_from_civil y m 1 in
    let t : ℕ = (monday_zero w + 7 - weekday_of start) % 7 in
    let near : t < 7 = omega arith in
    let k : ℕ = 7 * (n - 1) + t + 1 in
    let place = days_from_civil-day y m 1 k (omega arith) (omega arith) in
    let counted : nth_weekday n w m y ≡ (start +ℤ pos t) +ℤ pos (7 * (n - 1)) = refl in
    record { day = k; from = omega (arith, one); to = omega (arith, one, near); is = omega (arith, signed_arith, place, counted) }

last_date : (y : ℤ) (w : Weekday) → IsFound y 5 25 31 (last_weekday w 5 y)
unfolding last_weekday
last_date y w =
    let end : ℤ = days_from_civil y 5 31 in
    let t : ℕ = (weekday_of end + 7 - monday_zero w) % 7 in
    let near : t < 7 = omega arith in
    let k : ℕ = 31 - t in
    let place = days_from_civil-day y 5 k 31 (omega (arith, near)) (omega arith) in
    let counted : last_weekday w 5 y ≡ end -ℤ pos t = refl in
    record { day = k; from = omega (arith, near); to = omega arith; is = omega (arith, signed_arith, place, counted, near) }

on_nth : (h : FederalHoliday) (y : ℤ) (m n : ℕ) (w : Weekday) (d : ℤ) → is_stated y ≡ true → IsInRange 1 12 m → 1 ≤ n → n ≤ 4 → low_key h ≤ 32 * m + (7 * n - 6) → 32 * m + 7 * n ≤ high_key h → nth_weekday n w m y ≡ d → IsPlaced h y d
on_nth h y m n w d stated month one four low high is =
    let found = nth_date y m n w one in
    let from = found.from in
    let to = found.to in
    on_date h y m found.day d stated month (in_each_month y m found.day (omega (arith, from, one)) (omega (arith, to, four))) (omega (arith, from, low)) (omega (arith, to, high)) (found.is ∙ is)

in_may : (y : ℤ) (k : ℕ) → 1 ≤ k → k ≤ 31 → IsInRange 1 (days_in_month y 5) k
in_may y k low high = (low, high)

by_words : (h : FederalHoliday) (y d : ℤ) → is_stated y ≡ true → words_of h y ≡ Some d → IsPlaced h y d
by_words NewYearsDay y d stated is =
    on_date NewYearsDay y 1 1 d stated (omega arith, omega arith) (in_each_month y 1 1 (omega arith) (omega arith)) (omega arith) (omega arith) (some_same (days_from_civil y 1 1) d is)
by_words BirthdayOfMartinLutherKingJr y d stated is =
    on_nth BirthdayOfMartinLutherKingJr y 1 3 Monday d stated (omega arith, omega arith) (omega arith) (omega arith) (omega arith) (omega arith) (some_same (nth_weekday 3 Monday 1 y) d (unless (int_lt y (pos 1986)) (Some (nth_weekday 3 Monday 1 y)) d is))
by_words InaugurationDay y d stated is =
    let held = if_so (is_inauguration_year y) (Some (if weekday_of (days_from_civil y 1 20) == 6 then days_from_civil y 1 21 else days_from_civil y 1 20)) d is in
    elim (one_of (weekday_of (days_from_civil y 1 20) == 6) (days_from_civil y 1 21) (days_from_civil y 1 20) d (some_same (if weekday_of (days_from_civil y 1 20) == 6 then days_from_civil y 1 21 else days_from_civil y 1 20) d held.1)) [
      | inl later ↦ on_date InaugurationDay y 1 21 d stated (omega arith, omega arith) (in_each_month y 1 21 (omega arith) (omega arith)) (omega arith) (omega arith) later
      | inr same ↦ on_date InaugurationDay y 1 20 d stated (omega arith, omega arith) (in_each_month y 1 20 (omega arith) (omega arith)) (omega arith) (omega arith) same
    ]
by_words WashingtonsBirthday y d stated is =
    elim (one_of (int_lt y (pos 1971)) (days_from_civil y 2 22) (nth_weekday 3 Monday 2 y) d (some_same (if int_lt y (pos 1971) then days_from_civil y 2 22 else nth_weekday 3 Monday 2 y) d is)) [
      | inl early ↦ on_date WashingtonsBirthday y 2 22 d stated (omega arith, omega arith) (in_each_month y 2 22 (omega arith) (omega arith)) (omega arith) (omega arith) early
      | inr later ↦ on_nth WashingtonsBirthday y 2 3 Monday d stated (omega arith, omega arith) (omega arith) (omega arith) (omega arith) (omega arith) later
    ]
by_words MemorialDay y d stated is =
    elim (one_of (int_lt y (pos 1971)) (days_from_civil y 5 30) (last_weekday Monday 5 y) d (some_same (if int_lt y (pos 1971) then days_from_civil y 5 30 else last_weekday Monday 5 y) d is)) [
      | inl early ↦ on_date MemorialDay y 5 30 d stated (omega arith, omega arith) (in_may y 30 (omega arith) (omega arith)) (omega arith) (omega arith) early
      | inr later ↦
          let found = last_date y Monday in
          let from = found.from in
          let to = found.to in
          on_date MemorialDay y 5 found.day d stated (omega arith, omega arith) (in_may y found.day (omega (arith, from)) to) (omega (arith, from)) (omega (arith, to)) (found.is ∙ later)
    ]
by_words Juneteenth y d stated is =
    on_date Juneteenth y 6 19 d stated (omega arith, omega arith) (in_each_month y 6 19 (omega arith) (omega arith)) (omega arith) (omega arith) (some_same (days_from_civil y 6 19) d (unless (int_lt y (pos 2021)) (Some (days_from_civil y 6 19)) d is))
by_words IndependenceDay y d stated is =
    on_date IndependenceDay y 7 4 d stated (omega arith, omega arith) (in_each_month y 7 4 (omega arith) (omega arith)) (omega arith) (omega arith) (some_same (days_from_civil y 7 4) d is)
by_words LaborDay y d stated is =
    on_nth LaborDay y 9 1 Monday d stated (omega arith, omega arith) (omega arith) (omega arith) (omega arith) (omega arith) (some_same (nth_weekday 1 Monday 9 y) d is)
by_words ColumbusDay y d stated is =
    on_nth ColumbusDay y 10 2 Monday d stated (omega arith, omega arith) (omega arith) (omega arith) (omega arith) (omega arith) (some_same (nth_weekday 2 Monday 10 y) d (unless (int_lt y (pos 1971)) (Some (nth_weekday 2 Monday 10 y)) d is))
by_words VeteransDay y d stated is =
    elim (one_of (int_le (pos 1971) y && int_le y (pos 1977)) (nth_weekday 4 Monday 10 y) (days_from_civil y 11 11) d (some_same (if int_le (pos 1971) y && int_le y (pos 1977) then nth_weekday 4 Monday 10 y else days_from_civil y 11 11) d is)) [
      | inl monday ↦ on_nth VeteransDay y 10 4 Monday d stated (omega arith, omega arith) (omega arith) (omega arith) (omega arith) (omega arith) monday
      | inr eleventh ↦ on_date VeteransDay y 11 11 d stated (omega arith, omega arith) (in_each_month y 11 11 (omega arith) (omega arith)) (omega arith) (omega arith) eleventh
    ]
by_words ThanksgivingDay y d stated is =
    on_nth ThanksgivingDay y 11 4 Thursday d stated (omega arith, omega arith) (omega arith) (omega arith) (omega arith) (omega arith) (some_same (nth_weekday 4 Thursday 11 y) d is)
by_words ChristmasDay y d stated is =
    on_date ChristmasDay y 12 25 d stated (omega arith, omega arith) (in_each_month y 12 25 (omega arith) (omega arith)) (omega arith) (omega arith) (some_same (days_from_civil y 12 25) d is)

pub placed : (h : FederalHoliday) (y d : ℤ) → set_in h y ≡ Some d → IsPlaced h y d
unfolding set_in
placed h y d is = let stated = if_so (is_stated y) (words_of h y) d is in by_words h y d stated.0 stated.1

-- each date lies from 1 January to 31 December
in_year : (date : Date) (y d : ℤ) → date.year ≡ y → epoch_day date ≡ d → (days_from_civil y 1 1 ≤ℤ d) × (d ≤ℤ days_from_civil y 12 31)
in_year date y d year number =
    let here = day_count-day_of_year date.year date.month date.day date.day_in.0 in
    let most = day_of_year_bound date.year date.month date.day (civil date) in
    let last = day_count-last_of_year date.year in
    let first = date.day_in.0 in
    let least : 1 ≤ day_of_year date.year date.month date.day = omega (arith, first) in
    rw (← year, ← number) (omega (arith, signed_arith, days_from_civil-day_count, here, least), omega (arith, signed_arith, days_from_civil-day_count, here, most, last))

pub holidays_lie_in_their_year : HolidaysLieInTheirYear
holidays_lie_in_their_year h y d is = let at = placed h y d is in in_year at.date y d at.year at.number

-- the holiday that may have a date, but for Inauguration Day
holiday_at : ℕ → FederalHoliday
holiday_at n =
    if nat_le n 33 then NewYearsDay
    else if nat_le n 53 then BirthdayOfMartinLutherKingJr
    else if nat_le n 86 then WashingtonsBirthday
    else if nat_le n 191 then MemorialDay
    else if nat_le n 211 then Juneteenth
    else if nat_le n 228 then IndependenceDay
    else if nat_le n 295 then LaborDay
    else if nat_le n 334 then ColumbusDay
    else if nat_le n 363 then VeteransDay
    else if nat_le n 380 then ThanksgivingDay
    else ChristmasDay

only_there : (h : FederalHoliday) (n : ℕ) → ¬ (h ≡ InaugurationDay) → low_key h ≤ n → n ≤ high_key h → holiday_at n ≡ h
unfolding holiday_at
only_there NewYearsDay n other low high = grind arith
only_there BirthdayOfMartinLutherKingJr n other low high = grind arith
only_there InaugurationDay n other low high = absurd (other refl)
only_there WashingtonsBirthday n other low high = grind arith
only_there MemorialDay n other low high = grind arith
only_there Juneteenth n other low high = grind arith
only_there IndependenceDay n other low high = grind arith
only_there LaborDay n other low high = grind arith
only_there ColumbusDay n other low high = grind arith
only_there VeteransDay n other low high = grind arith
only_there ThanksgivingDay n other low high = grind arith
only_there ChristmasDay n other low high = grind arith

pub no_two_share_a_day : NoTwoShareADay
no_two_share_a_day h k y z d other_h other_k first second =
    let a = placed h y d first in
    let b = placed k z d second in
    let parts = epoch_day_injective a.date b.date (a.number ∙ sym b.number) in
    let month = parts.1 in
    let day = parts.2 in
    let key : 32 * a.date.month + a.date.day ≡ 32 * b.date.month + b.date.day = omega (arith, month, day) in
    (sym (only_there h (32 * a.date.month + a.date.day) other_h a.low a.high) ∙ ap holiday_at key ∙ only_there k (32 * b.date.month + b.date.day) other_k b.low b.high, sym a.year ∙ parts.0 ∙ b.year)

pub labor_day_is_a_monday : LaborDayIsAMonday
unfolding set_in
labor_day_is_a_monday y d is =
    let words = if_so (is_stated y) (words_of LaborDay y) d is in
    let same : nth_weekday 1 Monday 9 y ≡ d = some_same (nth_weekday 1 Monday 9 y) d words.1 in
    let counted = (weekdays_are_counted 1 Monday 9 y d (omega arith) (omega arith)).0 same in
    let found = nth_date y 9 1 Monday (omega arith) in
    let from = found.from in
    let to = found.to in
    let number = found.is ∙ same in
    let first = days_from_civil-day y 9 1 found.day (omega arith) (omega (arith, from)) in
    let last = days_from_civil-day y 9 found.day 7 (omega (arith, from)) (omega arith) in
    (counted.weekday, omega (arith, signed_arith, number, first, from), omega (arith, signed_arith, number, last, to))
