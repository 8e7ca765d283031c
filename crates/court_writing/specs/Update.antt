-- A court's file to which years are added.
use Rattle.std.specs.Prelude.{◌≡◌, ◌⊎◌, ℕ, suc, ◌-◌, nat_le, ◌==◌, ◌&&◌, not, Bool, true, false, ℤ, pos, ◌+ℤ◌, ◌≤ℤ◌, int_le, unsigned_abs, List, [], ◌∷◌, ◌++◌, codes, length, nat_eq, slice_get, Option, Some, None, Result, Ok, Err, is_some, option_and_then, IfErr, if◌then◌else◌}
use Rattle.std.specs.List.{find, slice_split, starts_with}
use Rattle.jiff_tz.specs.Year.{year_of_day}
use Rattle.court_clock.specs.Words.{day_text, days_through}
use Rattle.court_days.specs.Words.{CourtFile, DaysView, desk_court_in, is_among, is_covered}
use Rattle.court_days.specs.declared.holiday_list.HolidayList.{HolidayList}
use Rattle.court_days.specs.declared.holiday_list.HolidayList.TheVariants as list
use Rattle.court_file_text.specs.declared.fault.CourtFault.{CourtFault}
use Rattle.court_holidays.specs.States.Words.{on}
use Rattle.court_holidays.specs.declared.states.state.State.{State}
use Rattle.court_writing.specs.Courts.{District, district_named}
use Rattle.court_writing.specs.Listed.{federal_on, state_on}
use Rattle.court_writing.specs.Named.{lines_through, year_lines, years_from}
use Rattle.court_writing.specs.declared.lines.Line.TheVariants.{Listed, Named}
use Rattle.court_writing.specs.declared.put.Join.{Join}
use Rattle.court_writing.specs.declared.put.Join.TheVariants.{Nothing, Line, Comma}
use Rattle.court_writing.specs.declared.update.UpdateFault.{UpdateFault}
use Rattle.court_writing.specs.declared.update.UpdateFault.TheVariants as fault

-- ---- of which court a file is

-- the words of a line, between blanks
abbrev pub words : List ℕ → List (List ℕ)
words line = slice_split (λ byte. byte == 32) line

-- the first line that begins as `court write` begins it
abbrev pub line_said : List ℕ → Option (List ℕ)
line_said text = find (λ line. starts_with nat_eq line (codes "# Written by `docket court write --court ")) (slice_split (λ byte. byte == 10) text)

-- it names the court by its eighth word
abbrev pub court_in_line : (line : List ℕ) → Option District
court_in_line line = option_and_then district_named (slice_get (words line) 7)

abbrev pub court_said : List ℕ → Option District
court_said text = option_and_then court_in_line (line_said text)

-- ---- the text

-- bytes are in the place of others, and all else is as it was
abbrev pub IsPut : (old new : List ℕ) → (text result : List ℕ) → Type 0
IsPut old new text result = (before : List ℕ) × (after : List ℕ) × (text ≡ before ++ old ++ after) × (result ≡ before ++ new ++ after)

-- before lines there is nothing, the end of the line before, or a comma and that
abbrev pub join_text : Join → List ℕ
join_text Nothing = []
join_text Line = codes "\n"
join_text Comma = codes ",\n"

-- lines are put in at a place, if there are some
abbrev pub IsPutIn : (is_none : Bool) → (lines : List ℕ) → (text result : List ℕ) → Type 0
IsPutIn true lines text result = result ≡ text
IsPutIn false lines text result = (join : Join) × IsPut [] (join_text join ++ lines) text result

abbrev pub IsWithLines : (lines : List ℕ) → (text result : List ℕ) → Type 0
IsWithLines lines = IsPutIn (length lines == 0) lines

-- a list's lines of the days from a first one to the end of a year: those of the rest of its own year, and those of the years after it
abbrev pub lines_after : State → HolidayList → (first : ℤ) → (to : ℕ) → List ℕ
lines_after state list first to =
    year_lines (unsigned_abs (year_of_day first)) (lines_through state (Listed list) first (on 12 31 (year_of_day first)))
    ++ years_from state list (suc (unsigned_abs (year_of_day first))) (to - unsigned_abs (year_of_day first))

-- what is said of the days that are added
abbrev pub said_list : (key lines : List ℕ) → List ℕ
said_list key lines = if length lines == 0 then key ++ codes ": no day is added\n" else key ++ codes ": added are\n" ++ lines

abbrev pub said_text : (last end : ℤ) → (federal of_state : List ℕ) → List ℕ
said_text last end federal of_state =
    codes "to: " ++ day_text last ++ codes ", now " ++ day_text end ++ codes "\n" ++ said_list (codes "federal") federal ++ said_list (codes "state") of_state

-- In the place of the file's last day is that of the year, and the lines of the days after it are at the end of each list, and of the
-- table of names, if there is one. All other bytes are as they were.
pub record IsExtended (state : State) (last : ℤ) (to : ℕ) (text result said : List ℕ) : Type 0 where
  pub with_last : List ℕ
  pub with_federal : List ℕ
  pub with_state : List ℕ
  pub last_day : IsPut (day_text last) (day_text (on 12 31 (pos to))) text with_last
  pub federal : IsWithLines (lines_after state list.Federal (last +ℤ pos 1) to) with_last with_federal
  pub of_state : IsWithLines (lines_after state list.State (last +ℤ pos 1) to) with_federal with_state
  pub names : IsWithLines (lines_through state Named (last +ℤ pos 1) (on 12 31 (pos to))) with_state result ⊎ (result ≡ with_state)
  pub told : said ≡ said_text last (on 12 31 (pos to)) (lines_after state list.Federal (last +ℤ pos 1) to) (lines_after state list.State (last +ℤ pos 1) to)

-- ---- what it says

-- a day that the file covered is in a list where it was, and another one where it's listed for the court
abbrev pub was_in : DaysView → (dates : List ℤ) → ℤ → (is_listed : Bool) → Bool
was_in before dates d is_listed = if is_covered before d then is_among dates d else is_listed

pub record IsKept (state : State) (before days : DaysView) (d : ℤ) : Type 0 where
  pub federal : is_among days.federal d ≡ was_in before before.federal d (is_some (federal_on state d))
  pub of_state : is_among days.state d ≡ was_in before before.state d (is_some (state_on state d))

-- the calendar begins as it did and goes on to that day
pub record IsGrown (state : State) (before : DaysView) (last : ℤ) (days : DaysView) : Type 0 where
  pub from : days.from ≡ before.from
  pub to : days.to ≡ last
  pub kept : (d : ℤ) → days.from ≤ℤ d → d ≤ℤ days.to → IsKept state before days d

-- the text is the file of the court that the old one names, with those years, and this is what is said of it
pub record IsUpdateFrom (before : CourtFile) (text : List ℕ) (to : ℕ) (result said : List ℕ) : Type 0 where
  pub court : District
  pub after : CourtFile
  pub named : court_said text ≡ Some court
  pub is : desk_court_in result ≡ Ok after
  pub extended : IsExtended court.state before.days.to to text result said
  pub grown : IsGrown court.state before.days (on 12 31 (pos to)) after.days

abbrev pub IsUpdateOf : (text : List ℕ) → (to : ℕ) → (result said : List ℕ) → Type 0
IsUpdateOf text to result said = (before : CourtFile) × (desk_court_in text ≡ Ok before) × IsUpdateFrom before text to result said

-- ---- why it isn't made

-- the year is one of 2016 to 2199, the file goes up to the first of these, and it has at most 36,525 days, which is all that it may have
abbrev pub ends_late_enough : DaysView → Bool
ends_late_enough c = int_le (on 12 31 (pos 2015)) c.to

abbrev pub has_room : DaysView → (to : ℕ) → Bool
has_room c to = nat_le (days_through c.from (on 12 31 (pos to))) 36525

abbrev pub is_year : DaysView → (to : ℕ) → Bool
is_year c to = nat_le 2016 to && (nat_le to 2199 && (ends_late_enough c && has_room c to))

abbrev pub refusal_of : CourtFile → Option District → (to : ℕ) → Option UpdateFault
refusal_of file None to = Some fault.NoCourt
refusal_of file (Some court) to =
    if not (is_year file.days to) then Some fault.BadYear
    else if int_le (on 12 31 (pos to)) file.days.to then Some (fault.Reached file.days.to)
    else None

abbrev pub refusal : Result CourtFile CourtFault → Option District → (to : ℕ) → Option UpdateFault
refusal (Err e) said to = Some fault.NotRead
refusal (Ok file) said to = refusal_of file said to

-- the faults that come after these
abbrev pub is_late : UpdateFault → Bool
is_late (fault.NoPlace key) = true
is_late (fault.Beyond day) = true
is_late fault.NotReadBack = true
is_late fault.OutOfMemory = true
is_late other = false

abbrev pub IsLate : {A : Type 0} → Result A UpdateFault → Type 0
IsLate result = IfErr result (λ e. is_late e ≡ true)

-- the first that applies is given, unless memory runs out
abbrev pub IsRefused : {A : Type 0} → Option UpdateFault → Result A UpdateFault → Type 0
IsRefused (Some refused) result = (result ≡ Err refused) ⊎ (result ≡ Err fault.OutOfMemory)
IsRefused None result = IsLate result
