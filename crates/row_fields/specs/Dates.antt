-- Dates as people write them: 2025-09-02, 9/2/2025, 2-Sep-2025, Sep 2, 2025.
use Rattle.std.specs.Prelude.{ℕ, ◌==◌, ◌||◌, Bool, List, [], ◌∷◌, ◌++◌, length, ℤ, Option, Some, None, unwrap_or, if◌then◌else◌}
use Rattle.std.specs.Ordering.{int_eq}
use Rattle.csv.specs.Records.{field_at}
use Rattle.court_clock.specs.Words.{day_of_text}
use Rattle.row_fields.specs.declared.said.Said.{Said}
use Rattle.row_fields.specs.declared.said.Said.TheVariants.{Unknown, Clear, Unclear}
use Rattle.row_fields.specs.declared.dates.DateOrder.{DateOrder}
use Rattle.row_fields.specs.declared.dates.DateOrder.TheVariants.{MonthFirst, DayFirst}
use Rattle.row_fields.specs.Letters.{small}
use Rattle.row_fields.specs.Months.{month_named}

-- a blank, a comma, a dash, a dot or a slash divides the words of a date
abbrev pub is_divider : ℕ → Bool
is_divider b = (b == 32) || (b == 44) || (b == 45) || (b == 46) || (b == 47)

-- the words, and then this one, if it is one
abbrev pub ended : List (List ℕ) → List ℕ → List (List ℕ)
ended words [] = words
ended words (b ∷ word) = words ++ (b ∷ word) ∷ []

-- the words of a text after these, and after the beginning of another
unfoldable pub words_after : List (List ℕ) → List ℕ → List ℕ → List (List ℕ)
words_after words word [] = ended words word
words_after words word (b ∷ text) =
    if is_divider b then words_after (ended words word) [] text
    else words_after words (word ++ small b ∷ []) text

-- the words of a date, in small letters
abbrev pub date_words : List ℕ → List (List ℕ)
date_words text = words_after [] [] text

-- a number of one digit as one of two: `09` for `9`
abbrev pub two_digits_of : List ℕ → List ℕ
two_digits_of number = (if length number == 1 then 48 ∷ [] else []) ++ number

-- `2025-09-02`
abbrev pub iso_text : (year month day : List ℕ) → List ℕ
iso_text year month day = year ++ 45 ∷ [] ++ two_digits_of month ++ 45 ∷ [] ++ two_digits_of day

-- the day that has this year, month and day of the month
abbrev pub day_said : (year month day : List ℕ) → Option ℤ
day_said year month day = day_of_text (iso_text year month day)

-- one day, if there is one
abbrev pub day_alone : Option ℤ → Said ℤ
day_alone None = Unknown
day_alone (Some day) = Clear day

-- The day that one of two readings alone is: where each is another day, it isn't clear which.
abbrev pub one_alone : Option ℤ → Option ℤ → Said ℤ
one_alone None None = Unknown
one_alone (Some day) None = Clear day
one_alone None (Some day) = Clear day
one_alone (Some day) (Some other) = if int_eq day other then Clear day else Unclear day other

-- Two readings, of which the first has the month first: the one that the order says, and without an order the only one.
abbrev pub picked : Option DateOrder → Option ℤ → Option ℤ → Said ℤ
picked (Some MonthFirst) month_first day_first = day_alone month_first
picked (Some DayFirst) month_first day_first = day_alone day_first
picked None month_first day_first = one_alone month_first day_first

-- What three words say: 2-Sep-2025, Sep 2 2025, 2025-09-02, or numbers with the year at the end.
abbrev pub in_numbers : Option DateOrder → (first second third : List ℕ) → Said ℤ
in_numbers order first second third =
    if length first == 4 then day_alone (day_said first second third)
    else picked order (day_said third first second) (day_said third second first)

abbrev pub with_first : Option (List ℕ) → Option DateOrder → (first second third : List ℕ) → Said ℤ
with_first (Some month) order first second third = day_alone (day_said third month second)
with_first None order first second third = in_numbers order first second third

abbrev pub with_second : Option (List ℕ) → Option DateOrder → (first second third : List ℕ) → Said ℤ
with_second (Some month) order first second third = day_alone (day_said third month first)
with_second None order first second third = with_first (month_named first) order first second third

abbrev pub three_said : Option DateOrder → (first second third : List ℕ) → Said ℤ
three_said order first second third = with_second (month_named second) order first second third

-- the word of that number, counted from 0; empty where there is none
abbrev pub word_at : List (List ℕ) → ℕ → List ℕ
word_at words n = unwrap_or (field_at words n) []

-- what the words of a date say: it has three
abbrev pub words_said : Option DateOrder → List (List ℕ) → Said ℤ
words_said order words =
    if length words == 3 then three_said order (word_at words 0) (word_at words 1) (word_at words 2) else Unknown

-- the day that a text says
unfoldable pub date_said : Option DateOrder → List ℕ → Said ℤ
date_said order text = words_said order (date_words text)
