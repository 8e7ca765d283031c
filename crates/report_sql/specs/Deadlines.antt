-- The rows of deadlines, of their extensions, and of those that were ended.
use Rattle.std.specs.Prelude.{ℕ, ◌==◌, Bool, true, false, List, [], ◌∷◌, ◌++◌, Option, Some, None, codes, if◌then◌else◌}
use Rattle.court_clock.specs.Words.{CivilTime, ClockView, civil_of}
use Rattle.rule6.specs.declared.service.ServiceKind.{ServiceKind}
use Rattle.rule6.specs.declared.service.ServiceKind.TheVariants.{HandA, LeftB, MailC, ClerkD, ElectronicE, OtherF}
use Rattle.rule6.specs.declared.timeliness.Filing.{Filing}
use Rattle.rule6.specs.declared.timeliness.Means.{Means}
use Rattle.rule6.specs.declared.timeliness.Means.TheVariants.{Electronic, Paper}
use Rattle.rule6.specs.declared.timeliness.Shown.{Shown}
use Rattle.rule6.specs.declared.timeliness.Shown.TheVariants as shown
use Rattle.rule_periods.specs.declared.grant.Grant.{Grant}
use Rattle.rule_periods.specs.declared.grant.Grant.TheVariants.{ByDays, ByHours, Until, Reset, ResetAt}
use Rattle.rule_periods.specs.Words.{DeadlineRowView}
use Rattle.docket_rows.specs.declared.fact.Ending.{Ending}
use Rattle.docket_rows.specs.declared.sheet.SheetDeadline.{SheetDeadline}
use Rattle.docket_rows.specs.declared.sheet.State.{State}
use Rattle.docket_rows.specs.declared.sheet.State.TheVariants.{Pending, Timely, Late, Undecided}
use Rattle.docket_rows.specs.Words.{ending_word, suspended_by}
use Rattle.report_texts.specs.Words.{period_words}
use Rattle.report_sql.specs.Rows.{SqlValue, null, number, numbered, or_null, row_of, text, truth}
use Rattle.report_sql.specs.Times.{day_value, instant_value, minute_value, second_value}

-- the kind of service, by its letter in Rule 5(b)(2)
abbrev pub service_letter : ServiceKind → List ℕ
service_letter HandA = codes "A"
service_letter LeftB = codes "B"
service_letter MailC = codes "C"
service_letter ClerkD = codes "D"
service_letter ElectronicE = codes "E"
service_letter OtherF = codes "F"

abbrev pub service_value : ServiceKind → SqlValue
service_value kind = text (service_letter kind)

-- the time of day of an event; NULL where it is 00:00, which a row that gives none has too
abbrev pub event_time : (minute : ℕ) → SqlValue
event_time minute = if minute == 0 then null else minute_value minute

-- the period, from what it runs, and the kind of service
unfoldable pub started_values : DeadlineRowView → List SqlValue
started_values r =
    text (period_words r.period)
    ∷ day_value r.event.day
    ∷ event_time r.event.minute
    ∷ or_null day_value r.second
    ∷ or_null service_value r.service
    ∷ []

-- the day on which hours end by the court's clock, and when on that day
abbrev pub civil_values : Option CivilTime → List SqlValue
civil_values (Some at) = day_value at.day ∷ second_value at.second ∷ []
civil_values None = null ∷ null ∷ []

-- the last day, or the instant at which hours end; then the day on which the deadline is due, and when its hours end on that
-- day. What ends beyond the days covered has none of them.
unfoldable pub ends_values : ClockView → Shown → List SqlValue
ends_values clock (shown.Last day act) = day_value day ∷ null ∷ day_value day ∷ null ∷ []
ends_values clock (shown.Until end) = null ∷ instant_value end ∷ civil_values (civil_of clock.zone end)
ends_values clock shown.Beyond = null ∷ null ∷ null ∷ null ∷ []

abbrev pub is_paper : Means → Bool
is_paper Electronic = false
is_paper Paper = true

-- the act that was recorded, and whether it was on paper
unfoldable pub filed_values : Option Filing → List SqlValue
filed_values (Some f) = day_value f.day ∷ minute_value f.minute ∷ truth (is_paper f.means) ∷ []
filed_values None = null ∷ null ∷ null ∷ []

-- whether the act that was recorded was in time; NULL where none is, and where that isn't decided
abbrev pub timely_value : State → SqlValue
timely_value Pending = null
timely_value Timely = truth true
timely_value Late = truth false
timely_value Undecided = null

abbrev pub deadline_values : ClockView → SheetDeadline → List SqlValue
deadline_values clock d =
    (number d.number ∷ started_values d.row) ++ ends_values clock d.shown ++ filed_values d.row.filed ++ timely_value d.state ∷ []

unfoldable pub deadline_row : ClockView → (case : ℕ) → SheetDeadline → List ℕ
deadline_row clock case d = row_of (codes "deadlines") case (deadline_values clock d)

-- The extensions of a deadline are in one table, and the orders that set another end in another.
abbrev pub grant_table : Grant → List ℕ
grant_table (ByDays n) = codes "grants"
grant_table (ByHours n) = codes "grants"
grant_table (Until day) = codes "grants"
grant_table (Reset day) = codes "resets"
grant_table (ResetAt at) = codes "resets"

-- an extension: by days, by hours, or until a day; and what an order set: a day, or a time of it
abbrev pub grant_values : Grant → List SqlValue
grant_values (ByDays n) = number n ∷ null ∷ null ∷ []
grant_values (ByHours n) = null ∷ number n ∷ null ∷ []
grant_values (Until day) = null ∷ null ∷ day_value day ∷ []
grant_values (Reset day) = day_value day ∷ null ∷ []
grant_values (ResetAt at) = day_value at.day ∷ minute_value at.minute ∷ []

-- the extension of that number of a deadline, or the order, counted from 1 in the order in which they were given
unfoldable pub grant_row : (case deadline : ℕ) → (place : ℕ) → Grant → List ℕ
grant_row case deadline place g = row_of (grant_table g) case (number deadline ∷ number place ∷ grant_values g)

-- the motion that suspends a deadline
abbrev pub suspender_value : (motion : Option ℕ) → SqlValue
suspender_value motion = or_null number motion

-- why a deadline is due no more, and which motion suspends it, where its number is known
unfoldable pub ending_row : (case deadline : ℕ) → Ending → List ℕ
ending_row case deadline why =
    row_of (codes "endings") case (number deadline ∷ text (ending_word why) ∷ suspender_value (suspended_by why) ∷ [])

abbrev pub ending_row_if_any : (case deadline : ℕ) → Option Ending → List ℕ
ending_row_if_any case deadline (Some why) = ending_row case deadline why
ending_row_if_any case deadline None = []

-- a deadline, its extensions, and why it is due no more, if it was ended
unfoldable pub deadline_rows : ClockView → (case : ℕ) → SheetDeadline → List ℕ
deadline_rows clock case d = deadline_row clock case d ++ numbered (grant_row case d.number) 1 d.row.grants ++ ending_row_if_any case d.number d.ended
