-- The load of a week, with a bar.
use Rattle.std.specs.Prelude.{ℕ, ◌*◌, ◌/◌, ◌%◌, ◌+◌, ℤ, nat_lt, Bool, List, ◌++◌, codes, fold, if◌then◌else◌}
use Rattle.std.specs.Fmt.{decimal}
use Rattle.std.specs.Ordering.{int_eq}
use Rattle.hearing_slots.specs.declared.booking.Booking.{Booking}
use Rattle.docket_selection.specs.Words.{week_start}
use Rattle.page_markup.specs.declared.tag.Tag.TheVariants as tag
use Rattle.page_markup.specs.Words.{element, text_in}

-- the two days are of one week
abbrev pub is_same_week : (x y : ℤ) → Bool
is_same_week x y = int_eq (week_start x) (week_start y)

-- a week has 672 quarters of an hour
abbrev pub capped : (quarters : ℕ) → ℕ
capped quarters = if nat_lt 672 quarters then 672 else quarters

-- the quarters of an hour that a judge's hearings take in a day's week, after one booking more
abbrev pub load_after : (day : ℤ) → (quarters : ℕ) → Booking → ℕ
load_after day quarters b = if is_same_week b.day day then capped (quarters + b.count) else quarters

unfoldable pub week_load : (day : ℤ) → List Booking → ℕ
week_load day bookings = fold (load_after day) 0 bookings

-- `6 h 30 min`
unfoldable pub load_words : (quarters : ℕ) → List ℕ
load_words quarters = decimal (quarters / 4) ++ codes " h " ++ decimal (15 * (quarters % 4)) ++ codes " min"

-- hundredths of 40 hours, which are 160 quarters, and how many of them a bar shows
abbrev pub percent : (quarters : ℕ) → ℕ
percent quarters = quarters * 5 / 8

abbrev pub bar_width : (quarters : ℕ) → ℕ
bar_width quarters = if nat_lt 100 (percent quarters) then 100 else percent quarters

unfoldable pub percent_words : (quarters : ℕ) → List ℕ
percent_words quarters = decimal (percent quarters) ++ codes "%"

-- the load of a week as the head of its row, with a bar
unfoldable pub load_head : (quarters : ℕ) → List ℕ
load_head quarters = element tag.LoadHead (text_in tag.Line (load_words quarters) ++ text_in (tag.Bar (bar_width quarters)) (percent_words quarters))
