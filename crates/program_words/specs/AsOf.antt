-- As of when a folder is read.
use Rattle.std.specs.Prelude.{ℕ, ◌+◌, ◌*◌, ◌==◌, ℤ, ◌&&◌, ◌||◌, Bool, true, List, Option, None, Some, codes, is_some, length, nat_eq, nat_lt, option_map, if◌then◌else◌}
use Rattle.std.specs.List.{after_first, before_first, position_or_len}
use Rattle.std.specs.Option.{option_and_then, option_or}
use Rattle.clap.specs.Kinds.{or_else}
use Rattle.clap.specs.Words.{Kinds, Row, Text, first_of}
use Rattle.court_clock.specs.Words.{day_of_text, minute_of_text}
use Rattle.program_main.specs.Texts.Words.{day_said, faults_unless, number_of}
use Rattle.program_words.specs.declared.task.AsOf.{AsOf}
use Rattle.program_words.specs.declared.task.AsOf.TheVariants as as_of
use Rattle.program_words.specs.Given.{faults_together}

-- ---- a second of a day

-- the byte is this one
abbrev pub is_byte : (mark : ℕ) → ℕ → Bool
is_byte mark b = b == mark

-- the text before the first such byte, and the text after it
unfoldable pub cut_at : (mark : ℕ) → Text → Option (Text × Text)
cut_at mark text =
    if nat_lt (position_or_len (is_byte mark) text) (length text)
    then Some (before_first (is_byte mark) text, after_first (is_byte mark) text)
    else None

-- the number that two decimal digits write
abbrev pub two_digits : Text → Option ℕ
two_digits text = if nat_eq (length text) 2 then number_of text else None

-- the second of the day, counted from midnight, at an hour below 24, a minute below 60 and a second below 60
abbrev pub second_at : (hour minute second : ℕ) → Option ℕ
second_at hour minute second = if nat_lt hour 24 && nat_lt minute 60 && nat_lt second 60 then Some (3_600 * hour + 60 * minute + second) else None

-- `14:05:09`
unfoldable pub second_of_text : Text → Option ℕ
second_of_text text =
    option_and_then (λ (first : Text × Text).
    option_and_then (λ (rest : Text × Text).
    option_and_then (λ hour.
    option_and_then (λ minute.
    option_and_then (λ second. second_at hour minute second) (two_digits rest.1)) (two_digits rest.0)) (two_digits first.0)) (cut_at 58 first.1)) (cut_at 58 text)

-- or a minute, `14:05`, at its last second
unfoldable pub second_said : Text → Option ℕ
second_said text = option_or (option_map (λ minute. 60 * minute + 59) (minute_of_text text)) (second_of_text text)

-- a date and a time, `2026-11-28T14:05:09` or `2026-11-28T14:05`
unfoldable pub time_said : Text → Option AsOf
time_said text =
    option_and_then (λ (first : Text × Text).
    option_and_then (λ day. option_map (as_of.Second day) (second_said first.1)) (day_of_text first.0)) (cut_at 84 text)

-- ---- as of when

-- a number is that of a row; another text says a day, which is told by the instant that the clock shows, or else a time
abbrev pub as_of_said : (clock_time : ℤ) → Text → Option AsOf
as_of_said clock_time text = option_or (option_map as_of.Row (number_of text)) (option_or (option_map (λ day. as_of.Day day clock_time) (day_said text)) (time_said text))

abbrev pub as_of_in : (clock_time : ℤ) → List Row → Option AsOf
as_of_in clock_time given = option_and_then (as_of_said clock_time) (first_of (codes "as-of") given)

-- the text says a row, a day or a time, or none is given
abbrev pub is_as_of : Text → Bool
is_as_of text = is_some (number_of text) || is_some (day_said text) || is_some (time_said text)

abbrev pub is_as_of_taken : Option Text → Bool
is_as_of_taken None = true
is_as_of_taken (Some text) = is_as_of text

abbrev pub as_of_faults : List Row → Kinds
as_of_faults given = faults_unless (is_as_of_taken (first_of (codes "as-of") given))

-- of a report: it counts for a folder, and doesn't go with `--input`
abbrev pub report_as_of_faults : List Row → Kinds
report_as_of_faults given = or_else (faults_together (is_some (first_of (codes "as-of") given)) (is_some (first_of (codes "input") given))) (as_of_faults given)
