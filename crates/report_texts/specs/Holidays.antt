-- The names that a court's file gives to holidays.
use Rattle.std.specs.Prelude.{ℕ, nat_eq, ℤ, List, [], ◌∷◌, ◌++◌, take, Option, Some, None, codes, if◌then◌else◌}
use Rattle.std.specs.List.{ends_with, flat_map}
use Rattle.std.specs.Option.{option_and_then}
use Rattle.toml.specs.Data.{Data, Members, no_members, member, as_str, as_table, get_member}
use Rattle.court_file_text.specs.Words.{is_printed, toml_of}
use Rattle.court_clock.specs.Words.{day_of_text}
use Rattle.docket_rows.specs.Words.{most_dates}
use Rattle.reason_texts.specs.Words.{NamedDay}

-- a day and its name, where there are both
abbrev pub named_day : Option ℤ → Option (List ℕ) → List NamedDay
named_day (Some day) (Some text) = if is_printed text then (record { day = day; name = text } ∷ []) else []
named_day (Some day) None = []
named_day None text = []

-- what an entry of the table names: its key is a date, written as elsewhere in the file, and its value a name; any other
-- entry is passed over
abbrev pub named_by : List ℕ → Data → List NamedDay
named_by key value = named_day (day_of_text key) (as_str value)

-- what the entries of a table name, in its order
unfoldable pub named_among : Members → List NamedDay
named_among no_members = []
named_among (member key value rest) = named_by key value ++ named_among rest

-- what a table names, where there is one
abbrev pub named_in : Option Members → List NamedDay
named_in (Some table) = named_among table
named_in None = []

-- the table `[holiday_names]` of a document, where it has one
abbrev pub table_of_names : Members → Option Members
table_of_names document = option_and_then as_table (get_member (codes "holiday_names") document)

-- what the table of a court's file names, where it has one
abbrev pub named_by_file : List ℕ → List NamedDay
named_by_file file = named_in (option_and_then table_of_names (toml_of file))

-- the names that a court's file gives to holidays, as many at the most as a list of holidays has dates
abbrev pub holiday_names : List ℕ → List NamedDay
holiday_names file = take most_dates (named_by_file file)

-- the end of a name by which the court's file says that it is in doubt whether the state declares the day a holiday
abbrev pub doubt_mark : List ℕ
doubt_mark = codes " (doubtful)"

-- the day, where its name is so marked
abbrev pub if_doubtful : NamedDay → List ℤ
if_doubtful n = if ends_with nat_eq n.name doubt_mark then n.day ∷ [] else []

abbrev pub doubtful_among : List NamedDay → List ℤ
doubtful_among names = flat_map if_doubtful names

-- the days that a court's file marks as doubtful
abbrev pub doubtful_days : List ℕ → List ℤ
doubtful_days file = doubtful_among (named_by_file file)
