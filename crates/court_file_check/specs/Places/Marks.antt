-- What the bytes at a mark read as.
use Rattle.std.specs.Prelude.{◌≡◌, ℕ, ◌-◌, List, take, drop, Option, Some, None, option_and_then}
use Rattle.toml.specs.Data.{Data, Members, as_str, at, get_member}
use Rattle.toml.specs.Parse.{parse_value}
use Rattle.court_file_text.specs.Words.{key_name}
use Rattle.court_file_text.specs.declared.key.Key.{Key}
use Rattle.court_file_check.specs.declared.places.marks.Part.{Part}
use Rattle.court_file_check.specs.declared.places.marks.Part.TheVariants.{Value, Item}

-- the bytes of a text from one place up to another
abbrev pub cut : List ℕ → (start end : ℕ) → List ℕ
cut text start end = take (end - start) (drop start text)

-- what a document has at a key
abbrev pub value_of : Members → Key → Option Data
value_of file key = get_member (key_name key) file

-- what it has at a part of a key: the key's value, or the item of its list with that number
abbrev pub data_of_part : Members → Key → Part → Option Data
data_of_part file key Value = value_of file key
data_of_part file key (Item number) = option_and_then (at number) (value_of file key)
data_of_part file key part = None

-- the text that this is, if it is one
abbrev pub text_of_part : Members → Key → Part → Option (List ℕ)
text_of_part file key part = option_and_then as_str (data_of_part file key part)

-- the text that TOML reads in bytes, if they are one in quotes and nothing else
abbrev pub text_read : List ℕ → Option (List ℕ)
text_read bytes = option_and_then as_str (parse_value bytes)

-- between these places of the text is that part: where the part is a text, that is what is read there
abbrev pub IsPartAt : (text : List ℕ) → (file : Members) → Key → Part → (start end : ℕ) → Type 0
IsPartAt text file key part start end = (said : List ℕ) → text_of_part file key part ≡ Some said → text_read (cut text start end) ≡ Some said
