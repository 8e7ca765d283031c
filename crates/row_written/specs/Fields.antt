-- What a field says, by what its column holds, as a plain row writes it.
use Rattle.std.specs.Prelude.{ℕ, ◌-◌, ◌==◌, ◌&&◌, nat_eq, Bool, true, false, List, [], codes, length, take, Option, Some, None, if◌then◌else◌}
use Rattle.std.specs.List.{ends_with, list_any, starts_with}
use Rattle.std.specs.Option.{is_some}
use Rattle.std.specs.Str.{bytes_eq}
use Rattle.court_clock.specs.Words.{day_text, minute_text}
use Rattle.court_file_text.specs.Words.{NamedTextView, text_named}
use Rattle.row_forms.specs.Words.{CourtNames, is_number}
use Rattle.row_fields.specs.declared.said.Said.{Said}
use Rattle.row_fields.specs.declared.said.Said.TheVariants.{Unknown, Clear, Unclear}
use Rattle.row_fields.specs.declared.dates.DateOrder.{DateOrder}
use Rattle.row_fields.specs.Words.{act_said, answer_said, bare, closing_said, counted_said, date_said, folded, list_said, means_said, ruling_said, said_map, section_said, service_said, time_said, why_said}
use Rattle.row_forms.specs.declared.headings.columns.Column.{Column}
use Rattle.row_forms.specs.declared.headings.columns.Column.TheVariants.{Clerk, Command, Case, Deadline, Motion, Period, Date, Time, Start, TimeOrNone, SecondOrNone, ServiceOrNone, Means, Grant, ByMotion, Cause, Neglect, Need, Holidays, From, To, Judge, Judges, Room, Slots, Notice, Act, Why, Closing, ResumeDay, Ruling, JudgeOrNone, Dated, Title, Counted, Number, Label}
use Rattle.row_written.specs.Names.{name_said, panel_said}
use Rattle.row_written.specs.Subjects.{case_said, clear_if, deadline_said, motion_said, number_or_label, number_said, text_said}

-- a number of quarter hours, before a `q`
abbrev pub is_quarters : List ℕ → Bool
is_quarters text = ends_with nat_eq text (codes "q") && is_number (take (length text - 1) text)

-- how many slots: half hours, or quarter hours
abbrev pub slots_said : List ℕ → Said (List ℕ)
slots_said text = if is_number text then Clear text else clear_if (is_quarters (bare text)) (bare text)

-- the text of a time of day
abbrev pub time_if : Option ℕ → Said (List ℕ)
time_if None = Unknown
time_if (Some minute) = Clear (minute_text minute)

-- a time of day, or the end of the day
abbrev pub ending_said : List ℕ → Said (List ℕ)
ending_said text = if bytes_eq (bare text) (codes "24:00") then Clear (bare text) else time_if (time_said text)

-- the words for a column
abbrev pub word_in : Column → List ℕ → Said (List ℕ)
word_in Means word = means_said word
word_in ByMotion word = answer_said word
word_in Cause word = answer_said word
word_in Neglect word = answer_said word
word_in Holidays word = list_said word
word_in ServiceOrNone word = service_said word
word_in Act word = act_said word
word_in Why word = why_said word
word_in Closing word = closing_said word
word_in Ruling word = ruling_said word
word_in Counted word = counted_said word
word_in _ word = section_said word

abbrev pub word_said : Column → List ℕ → Said (List ℕ)
word_said column text = word_in column (folded text)

-- a name that the court's file gives to a period, where a field says nothing else
abbrev pub or_own : (own : List NamedTextView) → (text : List ℕ) → Said (List ℕ) → Said (List ℕ)
or_own own text Unknown = clear_if (is_some (text_named own text)) text
or_own own text (Clear plain) = Clear plain
or_own own text (Unclear one other) = Unclear one other

-- a period: the number of a section of the Rules or of a statute, the court's own name for one, or one with slashes, which a court enters
abbrev pub period_said : CourtNames → List ℕ → Said (List ℕ)
period_said names text =
    if list_any (λ b. nat_eq b 47) text then Clear (bare text) else or_own names.periods text (word_said Period text)

-- why a deadline is due no more: a word, or one with a colon and the number of the motion that suspends it
abbrev pub ending_why_said : List ℕ → Said (List ℕ)
ending_why_said text = if list_any (λ b. nat_eq b 58) text then Clear (bare text) else word_said Why text

-- an extension: a plus and a length, or a date
abbrev pub grant_said : Option DateOrder → List ℕ → Said (List ℕ)
grant_said order text =
    if starts_with nat_eq (bare text) (codes "+") then Clear (bare text) else said_map day_text (date_said order text)

-- the notice that a motion needs: a number of days, or none
abbrev pub need_said : List ℕ → Said (List ℕ)
need_said text = if bytes_eq (folded text) (codes "exparte") then Clear (folded text) else number_said text

-- a column may be empty
abbrev pub may_be_empty : Column → Bool
may_be_empty TimeOrNone = true
may_be_empty SecondOrNone = true
may_be_empty ServiceOrNone = true
may_be_empty ResumeDay = true
may_be_empty JudgeOrNone = true
may_be_empty _ = false

-- what a field says that isn't left empty
abbrev pub filled_said : CourtNames → Option DateOrder → Column → List ℕ → Said (List ℕ)
filled_said names order Clerk text = number_said text
filled_said names order Command text = Clear (folded text)
filled_said names order Case text = case_said text
filled_said names order Deadline text = deadline_said text
filled_said names order Motion text = motion_said text
filled_said names order Period text = period_said names text
filled_said names order Date text = said_map day_text (date_said order text)
filled_said names order Time text = time_if (time_said text)
filled_said names order Start text = time_if (time_said text)
filled_said names order TimeOrNone text = time_if (time_said text)
filled_said names order SecondOrNone text = said_map day_text (date_said order text)
filled_said names order ServiceOrNone text = word_said ServiceOrNone text
filled_said names order Means text = word_said Means text
filled_said names order Grant text = grant_said order text
filled_said names order ByMotion text = word_said ByMotion text
filled_said names order Cause text = word_said Cause text
filled_said names order Neglect text = word_said Neglect text
filled_said names order Need text = need_said text
filled_said names order Holidays text = word_said Holidays text
filled_said names order From text = time_if (time_said text)
filled_said names order To text = ending_said text
filled_said names order Judge text = name_said names.shorts names.judges text
filled_said names order Judges text = panel_said names.shorts names.judges text
filled_said names order Room text = name_said names.shorts names.rooms text
filled_said names order Slots text = slots_said text
filled_said names order Notice text = said_map day_text (date_said order text)
filled_said names order Act text = word_said Act text
filled_said names order Dated text = said_map day_text (date_said order text)
filled_said names order Why text = ending_why_said text
filled_said names order Closing text = word_said Closing text
filled_said names order ResumeDay text = said_map day_text (date_said order text)
filled_said names order Ruling text = word_said Ruling text
filled_said names order JudgeOrNone text = name_said names.shorts names.judges text
filled_said names order Counted text = word_said Counted text
filled_said names order Number text = number_or_label text
-- what something is called is the field as it is
filled_said names order Title text = text_said text
filled_said names order Label text = text_said text

-- what a field of a column says, as a plain row writes it
unfoldable pub field_said : CourtNames → Option DateOrder → Column → List ℕ → Said (List ℕ)
field_said names order column text =
    if (length text == 0) && may_be_empty column then Clear [] else filled_said names order column text
