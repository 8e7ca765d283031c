-- A day's text is that of its date, and it's read as that day.
use Rattle.std.proofs.Common.{◌≡◌, ◌&&◌, ◌<ℤ◌, ◌-ℤ◌, ◌<◌, inl, inr, ℕ, ℤ, pos, negsuc, unsigned_abs, neg_ℤ, ◌≤ℤ◌, int_le, Bool, true, false, List, IsSome, IfSome, ◌↔◌, Option, Some, None, Ok, Err, arith, refl, sym, ap, ◌∙◌}
use Rattle.std.specs.Str.{bytes_eq}
use Rattle.std.specs.Cmp.Lexicographic.{same_text}
use Rattle.std.proofs.lemmas.Cmp.{nat_list_eq_equiv}
use Rattle.std.proofs.lemmas.Bool.{cases_Bool, false_from_ne_true}
use Rattle.std.proofs.lemmas.Int.{ints}
use Rattle.jiff_core.specs.Calendar.{day_count, days_from_civil, days_of_years, days_of_months}
use Rattle.jiff_core.specs.Date.{epoch_day}
use Rattle.jiff_core.specs.declared.civil.date.Date.{Date}
use Rattle.jiff_core.specs.declared.error.Error.{Error}
use Rattle.jiff_core.proofs.CalendarLemmas.{day_count-lt_year}
use Rattle.jiff_core.proofs.DateLemmas.{epoch_day_injective}
use Rattle.jiff_fmt.specs.Text.{date_text as jiff_date_text, year_text, pad4}
use Rattle.jiff_fmt.specs.Temporal.{parse_date, date_parts}
use Rattle.jiff_fmt.proofs.RoundTrip.{parse_date-date_text}
use Rattle.court_clock.specs.Day.{IsDayNumber}
use Rattle.court_clock.specs.Day.Search.{days_through}
use Rattle.court_clock.specs.Day.Date.{CivilDate, date_of, date_text, day_text, day_of_text, is_written_day, TextsAreDays}
use Rattle.court_clock.proofs.DayLemmas.DateLemmas.{days_from_civil-parts, days_have_dates}
use Rattle.court_clock.proofs.DayLemmas.SpanLemmas.{days_through-within, within-days_through}
use Rattle.court_clock.proofs.DayLemmas.SearchLemmas.{first_passing-is, first_passing-finds}

years_to_1900 : days_of_years 11900 ≡ 4_346_386
unfolding days_of_years
years_to_1900 = refl

years_to_2199 : days_of_years 12199 ≡ 4_455_594
unfolding days_of_years
years_to_2199 = refl

months_of_1900 : days_of_months (pos 1900) 0 ≡ 0
unfolding days_of_months
months_of_1900 = refl

months_of_2199 : days_of_months (pos 2199) 11 ≡ 334
unfolding days_of_months
months_of_2199 = refl

-- 1900-01-01 and 2199-12-31 as day numbers
pub first_written_day : days_from_civil (pos 1900) 1 1 ≡ neg_ℤ (pos 25_567)
first_written_day = days_from_civil-parts 11900 0 0 ∙ rw (years_to_1900, months_of_1900) refl

pub last_written_day : days_from_civil (pos 2199) 12 31 ≡ pos 84_005
last_written_day = days_from_civil-parts 12199 11 30 ∙ rw (years_to_2199, months_of_2199) refl

-- a day of those years is a day
pub written_is_day : (d : ℤ) → is_written_day d ≡ true → IsDayNumber d
written_is_day d written =
    let bounds : (int_le (neg_ℤ (pos 25_567)) d && int_le d (pos 84_005)) ≡ true = rw (first_written_day, last_written_day) at written in
    grind (arith, ints, bounds)

-- the date of a day as jiff holds it
jiff_date : (d : ℤ) → IsDayNumber d → Date
jiff_date d number =
    let civil = (days_have_dates d number).civil in
    record { year = (date_of d).year; month = (date_of d).month; day = (date_of d).day; year_in = civil.0; month_in = civil.1; day_in = civil.2 }

-- dates with the same parts are the same
same_date : (a b : CivilDate) → a.year ≡ b.year → a.month ≡ b.month → a.day ≡ b.day → a ≡ b
same_date a b year month day =
    let civil : ℤ → ℕ → ℕ → CivilDate = λ y m d. record { year = y; month = m; day = d } in
    ap (λ y. civil y a.month a.day) year ∙ ap (λ m. civil b.year m a.day) month ∙ ap (λ d. civil b.year b.month d) day

-- a date with a day's number has that day's parts
pub date_of-same : (d : ℤ) (date : Date) → IsDayNumber d → epoch_day date ≡ d → date_of d ≡ record { year = date.year; month = date.month; day = date.day }
unfolding jiff_date
date_of-same d date number same =
    let counted = (days_have_dates d number).counted in
    let parts = epoch_day_injective (jiff_date d number) date (counted ∙ sym same) in
    same_date (date_of d) (record { year = date.year; month = date.month; day = date.day }) parts.0 parts.1 parts.2

-- a day's text is its date's
pub written_date : (d : ℤ) (date : Date) → IsDayNumber d → epoch_day date ≡ d → day_text d ≡ jiff_date_text date
unfolding day_text
written_date d date number same = ap date_text (date_of-same d date number same)

-- a text that a day has is read as the parts of its date
text_reads : (d : ℤ) (text : List ℕ) → IsDayNumber d → day_text d ≡ text → (date : Date) × ((epoch_day date ≡ d) × (parse_date text ≡ Ok (date_parts date)))
unfolding jiff_date
text_reads d text number written =
    let date = jiff_date d number in
    let counted : epoch_day date ≡ d = (days_have_dates d number).counted in
    (date, (counted, rw (← written, written_date d date number counted) (parse_date-date_text date)))

-- days with one text are one day
same_parts : (a b : Date) → date_parts a ≡ date_parts b → epoch_day a ≡ epoch_day b
same_parts a b same = ap (λ p. days_from_civil p.year p.month p.day) same

day_text_injective : (d e : ℤ) → IsDayNumber d → IsDayNumber e → day_text d ≡ day_text e → d ≡ e
day_text_injective d e number_d number_e same =
    let first = text_reads d (day_text e) number_d same in
    let second = text_reads e (day_text e) number_e refl in
    let both : Ok (date_parts first.0) ≡ Ok (date_parts second.0) = sym first.1.1 ∙ second.1.1 in
    let parts : date_parts first.0 ≡ date_parts second.0 = cc in
    sym first.1.0 ∙ same_parts first.0 second.0 parts ∙ second.1.0

-- an answer that can't be a day is none
by_answer : (answer : Option ℤ) → ((d : ℤ) → answer ≡ Some d → ⊥) → answer ≡ None
by_answer None h = refl
by_answer (Some d) h = absurd (h d refl)

-- an answer that is there is its value
given : (answer : Option ℤ) (d : ℤ) → IsSome answer → IfSome answer (λ e. e ≡ d) → answer ≡ Some d
given None d some value = absurd (cc)
given (Some e) d some value = ap Some value

and_first : (a b : Bool) → (a && b) ≡ true → a ≡ true
and_first true b h = refl
and_first false b h = h

and_second : (a b : Bool) → (a && b) ≡ true → b ≡ true
and_second true b h = h
and_second false b h = absurd (cc)

bytes_eq-refl : (text : List ℕ) → bytes_eq text text ≡ true
bytes_eq-refl text = nat_list_eq_equiv.refl text

written_in_search : (d : ℤ) → is_written_day d ≡ true → (days_from_civil (pos 1900) 1 1 ≤ℤ d) × (d ≤ℤ days_from_civil (pos 2199) 12 31)
written_in_search d written = (grind (arith, ints), grind (arith, ints))

search_is_written : (d : ℤ) → days_from_civil (pos 1900) 1 1 ≤ℤ d → d ≤ℤ days_from_civil (pos 2199) 12 31 → is_written_day d ≡ true
search_is_written d low high = grind (arith, ints)

pub texts_are_days : TextsAreDays
unfolding day_of_text
texts_are_days text d = (
  (λ found.
      let first : ℤ = days_from_civil (pos 1900) 1 1 in
      let last : ℤ = days_from_civil (pos 2199) 12 31 in
      let is = first_passing-is (λ e. bytes_eq (day_text e) text) (days_through first last) first d found in
      (search_is_written d is.at_or_after (days_through-within first last d is.within is.at_or_after), same_text _ _ (sym is.passes))),
  (λ h.
      let first : ℤ = days_from_civil (pos 1900) 1 1 in
      let last : ℤ = days_from_civil (pos 2199) 12 31 in
      let range = written_in_search d h.0 in
      let passes : bytes_eq (day_text d) text ≡ true = rw h.1 (bytes_eq-refl text) in
      first_passing-finds (λ e. bytes_eq (day_text e) text) (days_through first last) first d record {
        passes = passes;
        at_or_after = range.0;
        within = within-days_through first last d range.0 range.1;
        first = λ e after before. false_from_ne_true (bytes_eq (day_text e) text) (λ same.
            let other = written_is_day e (search_is_written e after (omega (arith, ints, before, range.1))) in
            let equal = day_text_injective e d other (written_is_day d h.0) (same_text _ _ (sym same) ∙ sym h.1) in
            omega (arith, ints, equal, before));
      }),
)

-- a text that jiff reads as no date is no day's
pub unreadable : (text : List ℕ) (e : Error) → parse_date text ≡ Err e → day_of_text text ≡ None
unreadable text e refused = by_answer (day_of_text text) (λ d found.
    let is = (texts_are_days text d).0 found in
    let read = text_reads d text (written_is_day d is.0) is.1 in
    let both : Ok (date_parts read.0) ≡ Err e = sym read.1.1 ∙ refused in
    absurd (cc))

-- a text that jiff reads as a date is that date's day, if the date is one of those years and is written so
pub reads : (text : List ℕ) (date : Date) (answer : Option ℤ) → (is_written_day (epoch_day date) && bytes_eq (jiff_date_text date) text) ≡ true → (IsSome answer ↔ IsDayNumber (epoch_day date)) → IfSome answer (λ d. d ≡ epoch_day date) → answer ≡ day_of_text text
reads text date answer spelled some value =
    let written = and_first _ _ spelled in
    let number = written_is_day (epoch_day date) written in
    let is_text = same_text _ _ (sym (and_second _ _ spelled)) in
    let day = (texts_are_days text (epoch_day date)).1 (written, written_date (epoch_day date) date number refl ∙ is_text) in
    given answer (epoch_day date) (some.1 number) value ∙ sym day

pub reads_none : (text : List ℕ) (date : Date) → parse_date text ≡ Ok (date_parts date) → (is_written_day (epoch_day date) && bytes_eq (jiff_date_text date) text) ≡ false → day_of_text text ≡ None
reads_none text date parsed other = by_answer (day_of_text text) (λ d found.
    let is = (texts_are_days text d).0 found in
    let read = text_reads d text (written_is_day d is.0) is.1 in
    let both : Ok (date_parts read.0) ≡ Ok (date_parts date) = sym read.1.1 ∙ parsed in
    let parts : date_parts read.0 ≡ date_parts date = cc in
    let same : epoch_day date ≡ d = sym (same_parts read.0 date parts) ∙ read.1.0 in
    let written : is_written_day (epoch_day date) ≡ true = rw same is.0 in
    let spelled : jiff_date_text date ≡ text = sym (written_date d date (written_is_day d is.0) same) ∙ is.1 in
    let equal : bytes_eq (jiff_date_text date) text ≡ true = rw spelled (bytes_eq-refl text) in
    let clash : true ≡ false = rw (written, equal) at other in
    absurd (cc))

-- a lesser count of days stays the lesser, whatever day is counted from
still_before : (a b c : ℕ) → int_le (pos a -ℤ pos c) (pos b -ℤ pos c) ≡ true → b < a → ⊥
still_before a b c after before =
    let reached : (pos a -ℤ pos c) ≤ℤ (pos b -ℤ pos c) = grind (arith, ints) in
    omega (arith, ints, reached, before)

-- such a day's year has four digits
written_year : (date : Date) → is_written_day (epoch_day date) ≡ true → pos 1900 ≤ℤ date.year
unfolding days_from_civil
written_year date written = elim (cases_Bool (int_le (pos 1900) date.year)) [
  | inl after ↦ grind (arith, ints)
  | inr before ↦
      let earlier : date.year <ℤ pos 1900 = grind (arith, ints) in
      let fewer = day_count-lt_year date.year date.month date.day (pos 1900) 1 1 (date.year_in, date.month_in, date.day_in) (omega arith) earlier in
      let reached : int_le (days_from_civil (pos 1900) 1 1) (epoch_day date) ≡ true = and_first _ _ written in
      absurd (still_before (day_count (pos 1900) 1 1) (day_count date.year date.month date.day) (day_count (pos 1970) 1 1) reached fewer)
]

pub written_digits : (date : Date) → is_written_day (epoch_day date) ≡ true → year_text date.year ≡ pad4 (unsigned_abs date.year)
written_digits date written = four date.year (written_year date written) where
  four : (y : ℤ) → pos 1900 ≤ℤ y → year_text y ≡ pad4 (unsigned_abs y)
  four (pos n) after = refl
  four (negsuc n) after = absurd (omega (arith, ints, after))
