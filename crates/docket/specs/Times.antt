-- As of when a folder is read, and which of its entries are listed, by the clock of the court that stands.
use Rattle.std.specs.Prelude.{◌≡◌, ℕ, ℤ, pos, ◌-◌, int_lt, nat_lt, unsigned_abs, List, Option, None, Some, option_map, string_bytes, take, if◌then◌else◌}
use Rattle.court_clock.specs.Words.{ClockView, instant_of}
use Rattle.court_days.specs.Words.{CourtView}
use Rattle.desk_entries.specs.Words.{SaysCourt, standing_file}
use Rattle.desk_journal.specs.Words.{StampView}
use Rattle.desk_program.specs.declared.as_of.Moment.{Moment}
use Rattle.desk_program.specs.declared.as_of.Moment.TheVariants.{Row, Second}
use Rattle.desk_program.specs.declared.log.LogChoice.{LogChoice}
use Rattle.desk_program.specs.Words.{IsKeptAt}
use Rattle.program_main.specs.declared.texts.days.DaySaid.{DaySaid}
use Rattle.program_main.specs.declared.texts.days.DaySaid.TheVariants.{After}
use Rattle.program_main.specs.Texts.Words.{day_on, today_by}
use Rattle.program_words.specs.declared.task.AsOf.{AsOf}
use Rattle.program_words.specs.declared.task.AsOf.TheVariants as as_of
use Rattle.program_words.specs.declared.task.LogAsked.{LogAsked}

-- the second of UTC of an instant; before 1970 it is the first
abbrev pub second_at : (instant : ℤ) → ℕ
second_at instant = if int_lt instant (pos 0) then 0 else unsigned_abs instant

-- the second at which a day begins by the clock
abbrev pub begin_of : ClockView → (day : ℤ) → ℕ
begin_of clock day = second_at (instant_of clock.zone day 0)

-- the second at which it has ended, since the next day begins
abbrev pub end_of : ClockView → (day : ℤ) → ℕ
end_of clock day = begin_of clock (day_on day (After 1))

-- the day that is said, by today's
abbrev pub day_then : ClockView → (clock_time : ℤ) → DaySaid → ℤ
day_then clock clock_time said = day_on (today_by clock clock_time) said

-- a second of a day, counted from midnight, of which a day has 86,400
abbrev pub second_within : (second : ℕ) → ℕ
second_within second = if nat_lt second 86_400 then second else 86_399

-- The second at which the clock shows a second of a day: the first of two, and, where the clock jumps over it, one that is later by
-- the gap.
abbrev pub second_of : ClockView → (day : ℤ) → (second : ℕ) → ℕ
second_of clock day second = second_at (instant_of clock.zone day (second_within second))

-- after the row, or at the last second of the day, or at that second
abbrev pub moment_of : ClockView → AsOf → Moment
moment_of clock (as_of.Row row) = Row row
moment_of clock (as_of.Day said clock_time) = Second (end_of clock (day_then clock clock_time said) - 1)
moment_of clock (as_of.Second day second) = Second (second_of clock day second)

-- The entries that there were then: as many of the first as had come by that moment, by the clock of the court that stands after them
-- all.
pub record IsThen (as_of : AsOf) (stamps : List StampView) (entries was : List (List ℕ)) : Type 0 where
  pub court : CourtView
  pub says : SaysCourt (standing_file entries) court
  pub count : ℕ
  pub kept : IsKeptAt (moment_of court.clock as_of) entries stamps count
  pub first : was ≡ take count entries

-- all entries where nothing is said
abbrev pub IsUntil : Option AsOf → (stamps : List StampView) → (entries was : List (List ℕ)) → Type 0
IsUntil None stamps entries was = was ≡ entries
IsUntil (Some as_of) stamps entries was = IsThen as_of stamps entries was

-- which entries are listed: those of the row, of the case, by the account, from the first second of the first day and before the end of the last
pub record IsChoice (clock : ClockView) (asked : LogAsked) (case : Option ℕ) (choice : LogChoice) : Type 0 where
  pub row : choice.row ≡ asked.row
  pub case_is : choice.case ≡ case
  pub by : option_map string_bytes choice.by ≡ option_map string_bytes asked.by
  pub from : choice.from ≡ option_map (λ said. begin_of clock (day_then clock asked.clock_time said)) asked.from
  pub to : choice.to ≡ option_map (λ said. end_of clock (day_then clock asked.clock_time said)) asked.to
  pub json : choice.json ≡ asked.json
