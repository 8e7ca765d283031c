-- The columns of rows, and what these are called.
use Rattle.std.specs.Prelude.{ℕ, Bool, true, false, List, codes, slice_get, unwrap_or}
use Rattle.row_forms.specs.declared.headings.columns.Column.{Column}
use Rattle.row_forms.specs.declared.headings.columns.Column.TheVariants.{Clerk, Command, Case, Deadline, Motion, Period, Date, Time, Start, TimeOrNone, SecondOrNone, ServiceOrNone, Means, Grant, ByMotion, Cause, Neglect, Need, Holidays, From, To, Judge, Judges, Room, Slots, Notice, Act, Why, Closing, ResumeDay, Ruling, JudgeOrNone, Dated, Title, Counted, Number, Label}

-- the column of that number, counted from 0
abbrev pub column_at : List Column → ℕ → Column
column_at columns number = unwrap_or (slice_get columns number) Command

-- the heading of a column
abbrev pub name_of : Column → List ℕ
name_of Clerk = codes "clerk"
name_of Command = codes "command"
name_of Case = codes "case"
name_of Deadline = codes "deadline"
name_of Motion = codes "motion"
name_of Period = codes "period"
name_of Date = codes "date"
name_of Time = codes "time"
name_of Start = codes "time"
name_of TimeOrNone = codes "time"
name_of SecondOrNone = codes "second"
name_of ServiceOrNone = codes "kind"
name_of Means = codes "means"
name_of Grant = codes "grant"
name_of ByMotion = codes "motion"
name_of Cause = codes "cause"
name_of Neglect = codes "neglect"
name_of Need = codes "need"
name_of Holidays = codes "list"
name_of From = codes "from"
name_of To = codes "to"
name_of Judge = codes "judge"
name_of Judges = codes "judge"
name_of Room = codes "room"
name_of Slots = codes "slots"
name_of Notice = codes "notice"
name_of Act = codes "act"
name_of Dated = codes "dated"
name_of Why = codes "why"
name_of Closing = codes "why"
name_of ResumeDay = codes "date"
name_of Ruling = codes "ruling"
name_of JudgeOrNone = codes "referred"
name_of Title = codes "title"
name_of Counted = codes "of"
name_of Number = codes "number"
name_of Label = codes "label"

-- What stands for a column where the form of a row is shown. What may be left empty is in brackets. The command word stands
-- for itself.
abbrev pub mark_of : (word : List ℕ) → Column → List ℕ
mark_of word Clerk = codes "CLERK"
mark_of word Command = word
mark_of word Case = codes "CASE"
mark_of word Deadline = codes "DEADLINE"
mark_of word Motion = codes "MOTION"
mark_of word Period = codes "PERIOD"
mark_of word Date = codes "DATE"
mark_of word Time = codes "TIME"
mark_of word Start = codes "START"
mark_of word TimeOrNone = codes "[TIME]"
mark_of word SecondOrNone = codes "[SECOND]"
mark_of word ServiceOrNone = codes "[KIND]"
mark_of word Means = codes "MEANS"
mark_of word Grant = codes "GRANT"
mark_of word ByMotion = codes "MOTION?"
mark_of word Cause = codes "CAUSE?"
mark_of word Neglect = codes "NEGLECT?"
mark_of word Need = codes "NEED"
mark_of word Holidays = codes "LIST"
mark_of word From = codes "FROM"
mark_of word To = codes "TO"
mark_of word Judge = codes "JUDGE"
mark_of word Judges = codes "JUDGE"
mark_of word Room = codes "ROOM"
mark_of word Slots = codes "SLOTS"
mark_of word Notice = codes "NOTICE"
mark_of word Act = codes "ACT"
mark_of word Dated = codes "DATED"
mark_of word Why = codes "WHY"
mark_of word Closing = codes "WHY"
mark_of word ResumeDay = codes "[DAY]"
mark_of word Ruling = codes "RULING"
mark_of word JudgeOrNone = codes "[JUDGE2]"
mark_of word Title = codes "TITLE"
mark_of word Counted = codes "deadline|motion"
mark_of word Number = codes "NUMBER"
mark_of word Label = codes "LABEL"

-- the field of a column may be empty, and then says none
abbrev pub may_be_empty : Column → Bool
may_be_empty TimeOrNone = true
may_be_empty SecondOrNone = true
may_be_empty ServiceOrNone = true
may_be_empty ResumeDay = true
may_be_empty JudgeOrNone = true
may_be_empty _ = false
