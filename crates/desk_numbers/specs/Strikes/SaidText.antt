-- What a correction says of rows, in its first line: a word for each. `d17.3.1` says that row 17 gave deadline 1 of case 3, and
-- `m18.3.2` that row 18 gave motion 2 of case 3.
use Rattle.std.specs.Prelude.{ℕ, ◌<◌, ◌==◌, ◌&&◌, Bool, not, List, [], ◌∷◌, ◌++◌, Option, Some, None, codes, filter_map, length, nat_eq, nat_le, nat_lt, option_and_then, slice_index, if◌then◌else◌}
use Rattle.std.specs.Char.{is_ascii_digit}
use Rattle.std.specs.Fmt.{decimal}
use Rattle.std.specs.List.{list_all}
use Rattle.std.specs.Str.Parse.{digits_value}
use Rattle.docket_rows.specs.declared.command.Counted.{Counted}
use Rattle.docket_rows.specs.declared.command.Counted.TheVariants.{Deadline, Motion}
use Rattle.desk_numbers.specs.declared.said.Said.{Said}
use Rattle.desk_numbers.specs.Strikes.Line.{before, past}

-- the letter with which a word begins: `d` of a deadline, `m` of a motion
abbrev pub letter_of : Counted → ℕ
letter_of Deadline = 100
letter_of Motion = 109

-- the word: its letter, and then the row, the case and the number, with dots between them
abbrev pub word_of : Said → List ℕ
word_of said = letter_of said.given.counted ∷ decimal said.row ++ codes "." ++ decimal said.given.case ++ codes "." ++ decimal said.given.number

-- all of them, each after a blank
unfoldable pub said_text : List Said → List ℕ
said_text [] = []
said_text (said ∷ more) = codes " " ++ word_of said ++ said_text more

-- the entry whose first line begins so, and says this; what comes after it, as a remark, stands on the lines below
abbrev pub entry_with : (begins : List ℕ) → List Said → (rest : List ℕ) → List ℕ
entry_with begins said rest = begins ++ said_text said ++ codes "\n" ++ rest

-- the row, the case and the number are each below 2 to the 32
abbrev pub Fits : Said → Type 0
Fits said = (said.row < 4_294_967_296) × (said.given.case < 4_294_967_296) × (said.given.number < 4_294_967_296)

-- one to ten decimal digits, with no leading zero but `0` itself
abbrev pub is_numeral : List ℕ → Bool
is_numeral text =
    (nat_le 1 (length text) && nat_le (length text) 10)
    && (not (nat_lt 1 (length text) && (slice_index text 0 == 48)) && list_all is_ascii_digit text)

-- the number below 2 to the 32 that a text writes
unfoldable pub numeral_of : List ℕ → Option ℕ
numeral_of text = if is_numeral text && nat_lt (digits_value 10 text) 4_294_967_296 then Some (digits_value 10 text) else None

-- of what a word says a number, by its letter
abbrev pub counted_by : (letter : ℕ) → Option Counted
counted_by letter = if nat_eq letter 100 then Some Deadline else if nat_eq letter 109 then Some Motion else None

-- what three numbers say
abbrev pub said_by : Counted → (row case number : Option ℕ) → Option Said
said_by counted (Some row) (Some case) (Some number) = Some (record { row = row; given = record { case = case; counted = counted; number = number } })
said_by counted row case number = None

-- what stands after the letter: three numbers, with dots between them
abbrev pub numbers_said : (text : List ℕ) → Counted → Option Said
numbers_said text counted = said_by counted (numeral_of (before 46 text)) (numeral_of (before 46 (past 46 text))) (numeral_of (past 46 (past 46 text)))

-- what a word says, if it says a number
unfoldable pub said_as : (word : List ℕ) → Option Said
said_as [] = None
said_as (letter ∷ text) = option_and_then (numbers_said text) (counted_by letter)

-- the words of a line, which is cut at each blank
abbrev pub with_byte : (byte : ℕ) → List (List ℕ) → List (List ℕ)
with_byte byte [] = (byte ∷ []) ∷ []
with_byte byte (word ∷ more) = (byte ∷ word) ∷ more

abbrev pub words_of : (line : List ℕ) → List (List ℕ)
words_of [] = [] ∷ []
words_of (byte ∷ line) = if nat_eq byte 32 then [] ∷ words_of line else with_byte byte (words_of line)

-- What an entry says in its first line: the words there that say a number, in their order. Other words say none.
unfoldable pub said_in : (entry : List ℕ) → List Said
said_in entry = filter_map said_as (words_of (before 10 entry))
