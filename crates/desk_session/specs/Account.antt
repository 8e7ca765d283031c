-- Who enters: the account of the user who runs the program, by what the system says of it.
use Rattle.std.specs.Prelude.{ℕ, Bool, false, not, List, [], ◌∷◌, ◌++◌, Option, None, Some, ◌==◌, ◌&&◌, codes, filter, length, nat_eq, nat_le, nat_lt, slice_get, take, unwrap_or}
use Rattle.std.specs.Char.{is_ascii_digit}
use Rattle.std.specs.List.{find, slice_split, starts_with}
use Rattle.std.specs.Option.{option_and_then, option_map_or}
use Rattle.std.specs.Str.{bytes_eq}

-- the parts of a text between such bytes
abbrev pub parts : (mark : ℕ) → List ℕ → List (List ℕ)
parts mark text = slice_split (λ byte. byte == mark) text

-- the lines of a text, each without its line feed
abbrev pub text_lines : List ℕ → List (List ℕ)
text_lines text = parts 10 text

-- the fields of a line, between colons
abbrev pub fields : List ℕ → List (List ℕ)
fields line = parts 58 line

-- The first number in a text, as it is written: the text is cut at each byte that is no digit, and it is the first part with
-- something in it.
abbrev pub first_number : List ℕ → Option (List ℕ)
first_number text = find (λ part. not (length part == 0)) (slice_split (λ byte. not (is_ascii_digit byte)) text)

-- The user's number, by the text of /proc/self/status: the first number of the first line that begins with 'Uid:'. It is the
-- number of the real user; those after it are the effective one's and others.
abbrev pub user_number : (status : List ℕ) → Option (List ℕ)
user_number status = option_and_then first_number (find (λ line. starts_with nat_eq line (codes "Uid:")) (text_lines status))

-- whether the third field of a line is this number
abbrev pub has_number : (number line : List ℕ) → Bool
has_number number line = option_map_or (λ field. bytes_eq field number) (slice_get (fields line) 2) false

-- the name of a user's number, by the text of /etc/passwd: the first field of the first line whose third field is the number
abbrev pub user_name : (users number : List ℕ) → Option (List ℕ)
user_name users number = option_and_then (λ line. slice_get (fields line) 0) (find (has_number number) (text_lines users))

-- a printable ASCII character: no control character, and a blank is one
abbrev pub is_printable : ℕ → Bool
is_printable byte = nat_le 32 byte && nat_lt byte 127

-- a question mark for a text that has nothing in it
abbrev pub or_mark : List ℕ → List ℕ
or_mark [] = codes "?"
or_mark (byte ∷ bytes) = byte ∷ bytes

-- the printable characters of a text, at most 64 of them
abbrev pub printable : List ℕ → List ℕ
printable text = take 64 (filter is_printable text)

-- what an account shows of a text: those characters, or a question mark where it has none
abbrev pub shown : List ℕ → List ℕ
shown text = or_mark (printable text)

-- the name of a user, or the number where the user database has no name for it
abbrev pub name_or_number : (users : List ℕ) → (number : Option (List ℕ)) → List ℕ
name_or_number users None = []
name_or_number users (Some number) = unwrap_or (user_name users number) number

-- The text of an account, NAME@HOST (NUMBER), by the texts of the three files. The host is the first line of its file.
unfoldable pub account_text : (status users host : List ℕ) → List ℕ
account_text status users host =
    shown (name_or_number users (user_number status)) ++ codes "@" ++ shown (unwrap_or (slice_get (text_lines host) 0) [])
    ++ codes " (" ++ shown (unwrap_or (user_number status) []) ++ codes ")"
