-- What is wrong with a row, as text.
use Rattle.std.specs.Prelude.{ℕ, List, ◌++◌, codes}
use Rattle.std.specs.Fmt.{decimal}
use Rattle.row_forms.specs.declared.fault.RowCause.{RowCause}
use Rattle.row_forms.specs.declared.fault.RowCause.TheVariants.{BadClerk, UnknownCommand, WrongCount, BadField, NotText, TooManyRows}

-- the number and the name of what is wrong with a row, and the column that it names
abbrev pub cause_text : RowCause → List ℕ
cause_text BadClerk = codes "1 BadClerk"
cause_text UnknownCommand = codes "2 UnknownCommand"
cause_text WrongCount = codes "3 WrongCount"
cause_text (BadField column) = codes "4 BadField " ++ decimal column
cause_text NotText = codes "5 NotText"
cause_text TooManyRows = codes "6 TooManyRows"
