-- The names of a court's judges and rooms, as people write them.
use Rattle.std.specs.Prelude.{ℕ, Bool, List, [], ◌∷◌, ◌++◌, filter, is_some, unwrap_or, if◌then◌else◌}
use Rattle.std.specs.Str.{bytes_eq}
use Rattle.court_file_text.specs.Words.{NamedTextView, name_index, text_named}
use Rattle.row_forms.specs.Words.{CourtNames}
use Rattle.row_fields.specs.declared.said.Said.{Said}
use Rattle.row_fields.specs.declared.said.Said.TheVariants.{Unknown, Clear, Unclear}
use Rattle.row_fields.specs.Words.{bare, fields_in}
use Rattle.row_written.specs.declared.names.Named.{Named}
use Rattle.row_written.specs.declared.names.Named.TheVariants.{Judges, Rooms}

-- these names of the court
abbrev pub named : CourtNames → Named → List (List ℕ)
named names Judges = names.judges
named names Rooms = names.rooms

-- it is one of the names
abbrev pub is_named : List (List ℕ) → List ℕ → Bool
is_named names name = is_some (name_index names name)

-- a name is this text, in small letters, without blanks and dots
abbrev pub same_name : List ℕ → List ℕ → Bool
same_name text name = bytes_eq (bare name) text

-- what is said where one more name fits
abbrev pub with_choice : Said (List ℕ) → List ℕ → Said (List ℕ)
with_choice Unknown name = Clear name
with_choice (Clear first) name = Unclear first name
with_choice (Unclear first second) name = Unclear first second

-- what is said where these names fit: with none nothing, with one that, and with more the first two
abbrev pub said_among : List (List ℕ) → Said (List ℕ)
said_among [] = Unknown
said_among (name ∷ []) = Clear name
said_among (name ∷ other ∷ more) = Unclear name other

-- what is said where these names fit too
abbrev pub chosen : Said (List ℕ) → List (List ℕ) → Said (List ℕ)
chosen Unknown names = said_among names
chosen (Clear first) [] = Clear first
chosen (Clear first) (name ∷ more) = Unclear first name
chosen (Unclear first second) names = Unclear first second

-- the name of which a text is the short one, or else the text
abbrev pub long_name : (shorts : List NamedTextView) → List ℕ → List ℕ
long_name shorts text = unwrap_or (text_named shorts text) text

-- The name that is meant: this very one, or the one of which it is the short one, or one that differs in the case of letters, in blanks and
-- in dots alone.
abbrev pub name_said : (shorts : List NamedTextView) → List (List ℕ) → List ℕ → Said (List ℕ)
name_said shorts names text =
    if is_named names text then Clear text
    else if is_named names (long_name shorts text) then Clear (long_name shorts text)
    else said_among (filter (same_name (bare text)) names)

-- names that a plus joins, and one more
abbrev pub with_name : List ℕ → List ℕ → List ℕ
with_name [] name = name
with_name (b ∷ names) name = (b ∷ names) ++ 43 ∷ [] ++ name

-- what comes of a name that is meant, and else what is said
abbrev pub when_meant : Said (List ℕ) → (List ℕ → Said (List ℕ)) → Said (List ℕ)
when_meant Unknown more = Unknown
when_meant (Clear name) more = more name
when_meant (Unclear name other) more = Unclear name other

-- the names that are meant, after these
unfoldable pub names_after : (shorts : List NamedTextView) → List (List ℕ) → List ℕ → List (List ℕ) → Said (List ℕ)
names_after shorts judges names [] = Clear names
names_after shorts judges names (piece ∷ pieces) = when_meant (name_said shorts judges piece) (λ name. names_after shorts judges (with_name names name) pieces)

-- the judges that are meant, whose names a plus joins
abbrev pub panel_said : (shorts : List NamedTextView) → List (List ℕ) → List ℕ → Said (List ℕ)
panel_said shorts judges text = names_after shorts judges [] (fields_in 43 text)
