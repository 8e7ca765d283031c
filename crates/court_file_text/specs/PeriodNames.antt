-- The names that a court's file gives to periods which are entered: a table `[periods]` has the text of each, and in it a table
-- `[periods.cite]` says where the period is from. A table `[triggers]` gives names to sets of periods, and a table `[short_names]` short
-- ones to judges and rooms. The desk alone reads them.
use Rattle.std.specs.Prelude.{ℕ, ◌==◌, ◌&&◌, ◌||◌, not, nat_lt, Bool, List, [], ◌∷◌, ◌++◌, length, Option, Some, None, codes, if◌then◌else◌}
use Rattle.std.specs.List.{list_all}
use Rattle.std.specs.Option.{option_and_then}
use Rattle.std.specs.Str.{bytes_eq}
use Rattle.toml.specs.Data.{Data, Members, no_members, member, as_str, as_table, get_member}
use Rattle.court_file_text.specs.Reading.{is_name}

-- a name, and the text that it stands for
pub record NamedTextView : Type 0 where
  pub name : List ℕ
  pub text : List ℕ

-- the texts of periods, where they are from, the sets of periods, and the names that have short ones, each in the order of its table
pub record PeriodNamesView : Type 0 where
  pub texts : List NamedTextView
  pub cites : List NamedTextView
  pub triggers : List NamedTextView
  pub shorts : List NamedTextView

abbrev pub no_period_names : PeriodNamesView
no_period_names = record { texts = []; cites = []; triggers = []; shorts = [] }

-- a byte of no ASCII control character
abbrev pub is_printed_byte : ℕ → Bool
is_printed_byte b = not (nat_lt b 32 || (b == 127))

-- a text that can be shown in a line: it isn't empty, and has no such character
abbrev pub is_printed : List ℕ → Bool
is_printed text = not (length text == 0) && list_all is_printed_byte text

-- a name as judges have them, and its text, where both can be read
abbrev pub named_text : (name : List ℕ) → Option (List ℕ) → List NamedTextView
named_text name None = []
named_text name (Some text) = if is_name name && is_printed text then (record { name = name; text = text } ∷ []) else []

-- what an entry of a table names; any other entry is passed over
abbrev pub named_by : (key : List ℕ) → Data → List NamedTextView
named_by key value = named_text key (as_str value)

-- what the entries of a table name, in its order
unfoldable pub texts_among : Members → List NamedTextView
texts_among no_members = []
texts_among (member key value rest) = named_by key value ++ texts_among rest

-- what a table names, where there is one
abbrev pub texts_if : Option Members → List NamedTextView
texts_if (Some table) = texts_among table
texts_if None = []

-- the table at a key, where there is one
abbrev pub table_at : (key : List ℕ) → Members → Option Members
table_at key table = option_and_then as_table (get_member key table)

-- where the periods of a table are from, where there is one
abbrev pub cites_if : Option Members → List NamedTextView
cites_if (Some table) = texts_if (table_at (codes "cite") table)
cites_if None = []

-- the names that a document gives to periods and to sets of them, and the short ones of judges and rooms
unfoldable pub period_names : Members → PeriodNamesView
period_names document = record {
  texts = texts_if (table_at (codes "periods") document);
  cites = cites_if (table_at (codes "periods") document);
  triggers = texts_if (table_at (codes "triggers") document);
  shorts = texts_if (table_at (codes "short_names") document);
}

-- the first text that has this name, if one has it
abbrev pub text_named : List NamedTextView → (name : List ℕ) → Option (List ℕ)
text_named [] name = None
text_named (n ∷ texts) name = if bytes_eq n.name name then Some n.text else text_named texts name
