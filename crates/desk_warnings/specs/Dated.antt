-- What a row dates after the day of entry, where it can't have happened yet.
use Rattle.std.specs.Prelude.{ℕ, ℤ, pos, ◌+ℤ◌, int_lt, List, [], ◌++◌, Option, Some, None, codes, if◌then◌else◌}
use Rattle.court_clock.specs.declared.direction.Direction.{Direction}
use Rattle.court_clock.specs.declared.direction.Direction.TheVariants.{After, Before}
use Rattle.court_clock.specs.Words.{day_text}
use Rattle.rule_periods.specs.declared.period.Period.{Period}
use Rattle.rule_periods.specs.Words.{direction_of, is_set, later_event}
use Rattle.docket_rows.specs.declared.command.Command.{Command as CommandOf}
use Rattle.docket_rows.specs.declared.command.Command.TheVariants as command
use Rattle.docket_rows.specs.declared.fact.Fact.{Fact}
use Rattle.docket_rows.specs.declared.fact.Fact.TheVariants as fact
use Rattle.reason_notes.specs.Warnings.Words.{note}

-- a period counted after its event runs from a day that has come; one that is counted back from it, as from a hearing, needn't
abbrev pub if_after : Direction → (start : ℤ) → Option ℤ
if_after After start = Some start
if_after Before start = None

-- the day from which a period runs; a day that an order sets is no event
abbrev pub start_dated : Period → (event : ℤ) → (second : Option ℤ) → Option ℤ
start_dated period event second = if is_set period then None else if_after (direction_of period) (later_event event second)

-- an event that lies a year or more from today has a note of its own
abbrev pub if_near : (today : ℤ) → Option ℤ → Option ℤ
if_near today None = None
if_near today (Some day) = if int_lt day (today +ℤ pos 365) then Some day else None

-- the day of the order or the paper that a fact of a case rests on
abbrev pub fact_dated : Fact → Option ℤ
fact_dated (fact.Ended deadline why dated) = Some dated
fact_dated (fact.Resumed deadline day dated) = Some dated
fact_dated (fact.Closed why dated) = Some dated
fact_dated (fact.Reopened dated) = Some dated
fact_dated (fact.Ruled motion how dated) = Some dated
fact_dated (fact.Assigned judge referred dated) = Some dated
fact_dated fact.Titled = None
fact_dated (fact.Labelled counted number) = None

-- the day of what a command says has happened: of a filing, of an event, of an act, of an order or a motion for more time, or of service
abbrev pub dated_of : (today : ℤ) → CommandOf → Option ℤ
dated_of today (command.OpenCase case filed) = Some filed
dated_of today (command.Start case period event second service) = if_near today (start_dated period event.day second)
dated_of today (command.FileAct case deadline filing) = Some filing.day
dated_of today (command.Extend case deadline request) = Some request.asked.day
dated_of today (command.Motion case served need) = Some served
dated_of today (command.Book s) = Some s.notice
dated_of today (command.MoveHearing s) = Some s.notice
dated_of today (command.Cancel case motion) = None
dated_of today (command.Holiday day list) = None
dated_of today (command.Inaccessible day from to) = None
dated_of today (command.Fact case recorded) = fact_dated recorded

-- `this day lies after the day of entry, 2025-09-15`
abbrev pub note_if_later : (today day : ℤ) → List ℕ
note_if_later today day = if int_lt today day then note (Some day) (codes "this day lies after the day of entry, " ++ day_text today) else []

abbrev pub note_if_dated : (today : ℤ) → Option ℤ → List ℕ
note_if_dated today None = []
note_if_dated today (Some day) = note_if_later today day

-- on a command, where a day counts as that of entry
abbrev pub dated_note : (today : Option ℤ) → CommandOf → List ℕ
dated_note None asked = []
dated_note (Some today) asked = note_if_dated today (dated_of today asked)
