-- A day as the text of an option says it, and which day that is.
use Rattle.std.specs.Prelude.{◌≡◌, ◌<◌, ◌≤ℤ◌, ℕ, ◌==◌, ℤ, pos, neg_ℤ, ◌-◌, ◌+ℤ◌, ◌-ℤ◌, int_lt, List, [], ◌∷◌, Option, Some, None, codes, drop, length, nat_eq, option_map, take, unwrap_or, if◌then◌else◌}
use Rattle.std.specs.Int.{int_rem_euclid}
use Rattle.std.specs.List.{ends_with, starts_with}
use Rattle.std.specs.Option.{option_and_then}
use Rattle.std.specs.Str.{bytes_eq}
use Rattle.clap.specs.Words.{Text}
use Rattle.court_clock.specs.Words.{ClockView, civil_of, day_of_text, weekday_of}
use Rattle.program_main.specs.declared.texts.days.DaySaid.{DaySaid}
use Rattle.program_main.specs.declared.texts.days.DaySaid.TheVariants.{After, Before, Date, Next}
use Rattle.program_main.specs.Texts.Numbers.{number_of}

-- ---- what a text says

-- a number of days: `7d`
abbrev pub count_of_days : Text → Option ℕ
count_of_days text = if ends_with nat_eq text (codes "d") then number_of (take (length text - 1) text) else None

-- so many days before today, `-3d`, or a date
abbrev pub before_today : Text → Option DaySaid
before_today text = if starts_with nat_eq text (codes "-") then option_map Before (count_of_days (drop 1 text)) else option_map Date (day_of_text text)

-- so many days after today, `+7d`, or one of those
abbrev pub counted : Text → Option DaySaid
counted text = if starts_with nat_eq text (codes "+") then option_map After (count_of_days (drop 1 text)) else before_today text

-- a word, or one of those
abbrev pub day_said : Text → Option DaySaid
day_said text =
    if bytes_eq text (codes "today") then Some (After 0)
    else if bytes_eq text (codes "tomorrow") then Some (After 1)
    else if bytes_eq text (codes "yesterday") then Some (Before 1)
    else if bytes_eq text (codes "monday") then Some (Next 0)
    else if bytes_eq text (codes "tuesday") then Some (Next 1)
    else if bytes_eq text (codes "wednesday") then Some (Next 2)
    else if bytes_eq text (codes "thursday") then Some (Next 3)
    else if bytes_eq text (codes "friday") then Some (Next 4)
    else if bytes_eq text (codes "saturday") then Some (Next 5)
    else if bytes_eq text (codes "sunday") then Some (Next 6)
    else counted text

-- the last of so many days, of which today is the first: `7` says the sixth after today
abbrev pub last_of_days : Text → Option DaySaid
last_of_days text = option_and_then (λ count. if count == 0 then None else Some (After (count - 1))) (number_of text)

-- ---- which day that is

-- the day of that number, as far as days have numbers
abbrev pub nearest_day : ℤ → ℤ
nearest_day n = if int_lt n (neg_ℤ (pos 110_000)) then neg_ℤ (pos 110_000) else if int_lt (pos 110_000) n then pos 110_000 else n

-- today, where it has that weekday, and else the next day that has it
abbrev pub next_weekday : (today : ℤ) → (weekday : ℕ) → ℤ
next_weekday today weekday = today +ℤ int_rem_euclid (pos weekday -ℤ pos (weekday_of today)) (pos 7)

-- the first day from today on that has the weekday
pub record IsNextWeekday (today : ℤ) (weekday : ℕ) (day : ℤ) : Type 0 where
  pub has : weekday_of day ≡ weekday
  pub from : today ≤ℤ day
  pub first : (other : ℤ) → today ≤ℤ other → weekday_of other ≡ weekday → day ≤ℤ other

abbrev pub WeekdaysComeNext : Type 0
WeekdaysComeNext = (today : ℤ) (weekday : ℕ) → weekday < 7 → IsNextWeekday today weekday (next_weekday today weekday)

-- the day that is said, by today
abbrev pub day_on : (today : ℤ) → DaySaid → ℤ
day_on today (Date day) = day
day_on today (After count) = nearest_day (today +ℤ pos count)
day_on today (Before count) = nearest_day (today -ℤ pos count)
day_on today (Next weekday) = nearest_day (next_weekday today weekday)

-- the day that a court's clock shows
abbrev pub today_by : ClockView → (instant : ℤ) → ℤ
today_by clock instant = unwrap_or (option_map (λ c. c.day) (civil_of clock.zone instant)) (pos 0)
