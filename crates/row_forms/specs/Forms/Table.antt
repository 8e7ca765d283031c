-- The table of forms: the command word of each, and its columns. Rows are read, refused, headed and shown by it. The desk takes
-- what clerk_office takes, and rows of its own.
use Rattle.std.specs.Prelude.{◌≡◌, ◌↔◌, ℕ, Bool, List, [], ◌∷◌, ◌++◌, codes, find, map, Option, Some, option_map}
use Rattle.std.specs.Str.{bytes_eq}
use Rattle.row_forms.specs.declared.forms.table.Form.{Form}
use Rattle.row_forms.specs.declared.forms.table.Form.TheVariants as form
use Rattle.row_forms.specs.declared.headings.columns.Column.{Column}
use Rattle.row_forms.specs.declared.headings.columns.Column.TheVariants.{Clerk, Command, Case, Deadline, Motion, Period, Date, Time, Start, TimeOrNone, SecondOrNone, ServiceOrNone, Means, Grant, ByMotion, Cause, Neglect, Need, Holidays, From, To, Judge, Judges, Room, Slots, Notice, Act, Why, Closing, ResumeDay, Ruling, JudgeOrNone, Dated, Title, Counted, Number, Label}

-- the forms of the rows of clerk_office
abbrev pub office_forms : List Form
office_forms =
    form.Open ∷ form.Start ∷ form.File ∷ form.Extend ∷ form.Motion ∷ form.Book ∷ form.Move ∷ form.Cancel ∷ form.Holiday ∷ form.Inaccessible ∷ form.Compute ∷ form.Sheet ∷ form.Calendar ∷ []

-- the forms of the rows of the desk
abbrev pub forms : List Form
forms = office_forms ++ form.Set ∷ form.Reset ∷ form.End ∷ form.Resume ∷ form.Close ∷ form.Reopen ∷ form.Rule ∷ form.Assign ∷ form.Title ∷ form.Label ∷ []

-- the command word of a form
abbrev pub command_word : Form → List ℕ
command_word form.Open = codes "open"
command_word form.Start = codes "start"
command_word form.File = codes "file"
command_word form.Extend = codes "extend"
command_word form.Motion = codes "motion"
command_word form.Book = codes "book"
command_word form.Move = codes "move"
command_word form.Cancel = codes "cancel"
command_word form.Holiday = codes "holiday"
command_word form.Inaccessible = codes "inaccessible"
command_word form.Compute = codes "compute"
command_word form.Sheet = codes "sheet"
command_word form.Calendar = codes "calendar"
command_word form.Set = codes "set"
command_word form.Reset = codes "reset"
command_word form.End = codes "end"
command_word form.Resume = codes "resume"
command_word form.Close = codes "close"
command_word form.Reopen = codes "reopen"
command_word form.Rule = codes "rule"
command_word form.Assign = codes "assign"
command_word form.Title = codes "title"
command_word form.Label = codes "label"

-- the columns of rows that set a hearing
abbrev pub setting_columns : List Column
setting_columns = Clerk ∷ Command ∷ Case ∷ Motion ∷ Judges ∷ Room ∷ Date ∷ Start ∷ Slots ∷ Notice ∷ []

-- the columns of a form's rows, from the first on
abbrev pub columns_of_form : Form → List Column
columns_of_form form.Open = Clerk ∷ Command ∷ Case ∷ Date ∷ []
columns_of_form form.Start = Clerk ∷ Command ∷ Case ∷ Period ∷ Date ∷ TimeOrNone ∷ SecondOrNone ∷ ServiceOrNone ∷ []
columns_of_form form.File = Clerk ∷ Command ∷ Case ∷ Deadline ∷ Date ∷ Time ∷ Means ∷ []
columns_of_form form.Extend = Clerk ∷ Command ∷ Case ∷ Deadline ∷ Grant ∷ Date ∷ Time ∷ ByMotion ∷ Cause ∷ Neglect ∷ []
columns_of_form form.Motion = Clerk ∷ Command ∷ Case ∷ Date ∷ Need ∷ []
columns_of_form form.Book = setting_columns
columns_of_form form.Move = setting_columns
columns_of_form form.Cancel = Clerk ∷ Command ∷ Case ∷ Motion ∷ []
columns_of_form form.Holiday = Clerk ∷ Command ∷ Date ∷ Holidays ∷ []
columns_of_form form.Inaccessible = Clerk ∷ Command ∷ Date ∷ From ∷ To ∷ []
columns_of_form form.Compute = Clerk ∷ Command ∷ Period ∷ Date ∷ TimeOrNone ∷ SecondOrNone ∷ ServiceOrNone ∷ []
columns_of_form form.Sheet = Clerk ∷ Command ∷ Case ∷ []
columns_of_form form.Calendar = Clerk ∷ Command ∷ Judge ∷ Date ∷ []
columns_of_form form.Set = Clerk ∷ Command ∷ Case ∷ Date ∷ TimeOrNone ∷ Act ∷ []
columns_of_form form.Reset = Clerk ∷ Command ∷ Case ∷ Deadline ∷ Date ∷ TimeOrNone ∷ Dated ∷ []
columns_of_form form.End = Clerk ∷ Command ∷ Case ∷ Deadline ∷ Why ∷ Dated ∷ []
columns_of_form form.Resume = Clerk ∷ Command ∷ Case ∷ Deadline ∷ ResumeDay ∷ Dated ∷ []
columns_of_form form.Close = Clerk ∷ Command ∷ Case ∷ Closing ∷ Dated ∷ []
columns_of_form form.Reopen = Clerk ∷ Command ∷ Case ∷ Dated ∷ []
columns_of_form form.Rule = Clerk ∷ Command ∷ Case ∷ Motion ∷ Ruling ∷ Dated ∷ []
columns_of_form form.Assign = Clerk ∷ Command ∷ Case ∷ Judge ∷ JudgeOrNone ∷ Dated ∷ []
columns_of_form form.Title = Clerk ∷ Command ∷ Case ∷ Title ∷ []
columns_of_form form.Label = Clerk ∷ Command ∷ Case ∷ Counted ∷ Number ∷ Label ∷ []

-- the word is this form's
unfoldable pub is_word_of : List ℕ → Form → Bool
is_word_of word f = bytes_eq word (command_word f)

-- the form with this command word, of the desk's rows
unfoldable pub form_of : List ℕ → Option Form
form_of word = find (is_word_of word) forms

-- the form with this command word that clerk_office takes
unfoldable pub office_form_of : List ℕ → Option Form
office_form_of word = find (is_word_of word) office_forms

-- the columns of the rows with this command word
unfoldable pub columns_of : List ℕ → Option (List Column)
columns_of word = option_map columns_of_form (form_of word)

-- words in a sentence: commas between them, and `or` before the last
unfoldable pub listed : List (List ℕ) → List ℕ
listed [] = []
listed (word ∷ []) = word
listed (word ∷ last ∷ []) = word ++ codes " or " ++ last
listed (word ∷ more) = word ++ codes ", " ++ listed more

-- the command words, as they are listed in a sentence
unfoldable pub commands_listed : List ℕ
commands_listed = listed (map command_word forms)

-- A word is that of one form, and of no other.
abbrev pub CommandWordsNameForms : Type 0
CommandWordsNameForms = (word : List ℕ) (f : Form) → (form_of word ≡ Some f) ↔ (command_word f ≡ word)
