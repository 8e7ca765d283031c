-- Lines that name columns.
use Rattle.std.specs.Prelude.{ℕ, ◌+◌, not, nat_lt, Bool, true, false, List, [], ◌∷◌, ◌++◌, codes, length, unwrap_or, Option, Some, None, if◌then◌else◌}
use Rattle.std.specs.Str.{bytes_eq}
use Rattle.csv.specs.Records.{field_at}
use Rattle.row_fields.specs.Words.{folded, is_one_of}
use Rattle.row_written.specs.declared.fault.Flaw.{Flaw}
use Rattle.row_written.specs.declared.fault.Flaw.TheVariants.{NoHeading, TwiceNamed}
use Rattle.row_written.specs.Fault.{FieldFault, fault_at}

-- the field of that number, counted from 0; empty where there is none
abbrev pub word_at : List (List ℕ) → ℕ → List ℕ
word_at fields n = unwrap_or (field_at fields n) []

-- a text that isn't empty
abbrev pub is_filled : List ℕ → Bool
is_filled [] = false
is_filled (b ∷ text) = true

-- how many names come before this one: all of them, where it isn't among them
unfoldable pub index_of : (name : List ℕ) → List (List ℕ) → ℕ
index_of name [] = 0
index_of name (other ∷ names) = if bytes_eq other name then 0 else index_of name names + 1

-- the name is among them
abbrev pub has_name : List (List ℕ) → List ℕ → Bool
has_name names name = nat_lt (index_of name names) (length names)

-- the heading that is meant, of those that come after `to` in the table
unfoldable pub later_heading : List ℕ → Option (List ℕ)
later_heading word =
    if is_one_of word (codes "judge" ∷ codes "judges" ∷ []) then Some (codes "judge")
    else if is_one_of word (codes "referred" ∷ codes "referredto" ∷ codes "magistrate" ∷ codes "magistratejudge" ∷ []) then Some (codes "referred")
    else if is_one_of word (codes "room" ∷ codes "courtroom" ∷ []) then Some (codes "room")
    else if is_one_of word (codes "slots" ∷ []) then Some (codes "slots")
    else if is_one_of word (codes "notice" ∷ codes "noticeserved" ∷ []) then Some (codes "notice")
    else if is_one_of word (codes "act" ∷ []) then Some (codes "act")
    else if is_one_of word (codes "dated" ∷ codes "orderdated" ∷ codes "orderdate" ∷ codes "dateoforder" ∷ []) then Some (codes "dated")
    else if is_one_of word (codes "why" ∷ codes "reason" ∷ []) then Some (codes "why")
    else if is_one_of word (codes "ruling" ∷ []) then Some (codes "ruling")
    else if is_one_of word (codes "title" ∷ codes "caption" ∷ []) then Some (codes "title")
    else if is_one_of word (codes "of" ∷ []) then Some (codes "of")
    else if is_one_of word (codes "number" ∷ []) then Some (codes "number")
    else if is_one_of word (codes "label" ∷ []) then Some (codes "label")
    else if is_one_of word (codes "note" ∷ codes "notes" ∷ codes "remarks" ∷ codes "comment" ∷ codes "comments" ∷ []) then Some (codes "note")
    else None

-- The heading that is meant, for a text that is folded. `note` is that of a column that no row has, and that is passed over.
unfoldable pub heading_said : List ℕ → Option (List ℕ)
heading_said word =
    if is_one_of word (codes "clerk" ∷ []) then Some (codes "clerk")
    else if is_one_of word (codes "command" ∷ codes "action" ∷ []) then Some (codes "command")
    else if is_one_of word (codes "case" ∷ codes "caseno" ∷ codes "casenumber" ∷ []) then Some (codes "case")
    else if is_one_of word (codes "deadline" ∷ codes "deadlineno" ∷ []) then Some (codes "deadline")
    else if is_one_of word (codes "motion" ∷ codes "motionno" ∷ []) then Some (codes "motion")
    else if is_one_of word (codes "period" ∷ codes "rule" ∷ []) then Some (codes "period")
    else if is_one_of word (codes "date" ∷ codes "day" ∷ []) then Some (codes "date")
    else if is_one_of word (codes "time" ∷ []) then Some (codes "time")
    else if is_one_of word (codes "second" ∷ codes "seconddate" ∷ []) then Some (codes "second")
    else if is_one_of word (codes "kind" ∷ codes "service" ∷ codes "serviceby" ∷ []) then Some (codes "kind")
    else if is_one_of word (codes "means" ∷ []) then Some (codes "means")
    else if is_one_of word (codes "grant" ∷ codes "extension" ∷ []) then Some (codes "grant")
    else if is_one_of word (codes "cause" ∷ codes "goodcause" ∷ []) then Some (codes "cause")
    else if is_one_of word (codes "neglect" ∷ codes "excusableneglect" ∷ []) then Some (codes "neglect")
    else if is_one_of word (codes "need" ∷ codes "noticedays" ∷ []) then Some (codes "need")
    else if is_one_of word (codes "list" ∷ codes "holidays" ∷ []) then Some (codes "list")
    else if is_one_of word (codes "from" ∷ []) then Some (codes "from")
    else if is_one_of word (codes "to" ∷ []) then Some (codes "to")
    else later_heading word

-- the heading that a field says; empty where it says none
abbrev pub heading_of : List ℕ → List ℕ
heading_of field = unwrap_or (heading_said (folded field)) []

-- a line with these headings names columns: one of them is that of command words
abbrev pub names_columns : List (List ℕ) → Bool
names_columns headings = has_name headings (codes "command")

-- what is wrong with the heading of a column, after those of the columns before it
abbrev pub heading_flaw : (before : List (List ℕ)) → (heading : List ℕ) → Option Flaw
heading_flaw before heading =
    if not (is_filled heading) then Some NoHeading
    else if bytes_eq heading (codes "note") then None
    else if has_name before heading then Some TwiceNamed
    else None

-- the fault of a field, where there is one
abbrev pub flawed : (text : List ℕ) → (number : ℕ) → (field : List ℕ) → Option Flaw → List FieldFault
flawed text number field None = []
flawed text number field (Some flaw) = fault_at text number flaw field [] [] ∷ []

-- the fault of a field of a line that names columns
abbrev pub heading_fault : (text : List ℕ) → (number : ℕ) → (before : List (List ℕ)) → (field : List ℕ) → List FieldFault
heading_fault text number before field =
    if is_filled field then flawed text number field (heading_flaw before (heading_of field)) else []

-- the faults of such a line's fields, of which the first has this number
unfoldable pub heading_faults : (text : List ℕ) → (number : ℕ) → (before fields : List (List ℕ)) → List FieldFault
heading_faults text number before [] = []
heading_faults text number before (field ∷ fields) =
    heading_fault text number before field ++ heading_faults text (number + 1) (before ++ heading_of field ∷ []) fields
