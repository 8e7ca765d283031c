-- Deadlines, with their ends.
use Rattle.std.specs.Prelude.{ℕ, ℤ, List, [], ◌∷◌, ◌++◌, map, Option, Some, None, codes}
use Rattle.json.specs.Json.{Json, string}
use Rattle.jiff_tz.specs.declared.timezone.TimeZone.{TimeZone}
use Rattle.rule6.specs.declared.timeliness.Filing.{Filing}
use Rattle.rule6.specs.declared.timeliness.Shown.{Shown}
use Rattle.rule6.specs.declared.timeliness.Shown.TheVariants as shown
use Rattle.rule_periods.specs.Words.{DeadlineRowView, EventView}
use Rattle.docket_rows.specs.declared.fact.Ending.{Ending}
use Rattle.docket_rows.specs.declared.sheet.SheetDeadline.{SheetDeadline}
use Rattle.docket_rows.specs.Words.{ending_word, suspended_by}
use Rattle.office_texts.specs.Words.{means_text, state_word}
use Rattle.report_json.specs.Periods.{code_of, entered_of, entered_value, grant_value, service_value}
use Rattle.report_json.specs.Times.{day_value, happened_fields, instant_value}
use Rattle.report_json.specs.Values.{Field, array_of, amount, field, object_of, or_null}

abbrev pub last_day_of : Shown → Option ℤ
last_day_of (shown.Last day act) = Some day
last_day_of (shown.Until end) = None
last_day_of shown.Beyond = None

abbrev pub end_of : Shown → Option ℤ
end_of (shown.Last day act) = None
end_of (shown.Until end) = Some end
end_of shown.Beyond = None

-- when a time ends: its last day, or the instant at which its hours end; neither where it ends beyond the days covered
abbrev pub shown_fields : TimeZone → Shown → List Field
shown_fields zone end =
    field (codes "last_day") (or_null day_value (last_day_of end))
    ∷ field (codes "end") (or_null (instant_value zone) (end_of end))
    ∷ []

-- the end by another reading
unfoldable pub shown_value : TimeZone → Shown → Json
shown_value zone end = object_of (shown_fields zone end)

unfoldable pub event_value : TimeZone → EventView → Json
event_value zone e = object_of (happened_fields zone e.day e.minute)

-- the act that was recorded
abbrev pub filed_fields : TimeZone → Filing → List Field
filed_fields zone f = happened_fields zone f.day f.minute ++ field (codes "means") (string (means_text f.means)) ∷ []

unfoldable pub filed_value : TimeZone → Filing → Json
filed_value zone f = object_of (filed_fields zone f)

-- from what a deadline runs, and its extensions
unfoldable pub started_fields : TimeZone → DeadlineRowView → List Field
started_fields zone row =
    field (codes "event") (event_value zone row.event)
    ∷ field (codes "second_day") (or_null day_value row.second)
    ∷ field (codes "service") (or_null service_value row.service)
    ∷ field (codes "grants") (array_of (map grant_value row.grants))
    ∷ []

-- what is docketed of a deadline: its number in its case, its period, from what it runs, and its extensions
unfoldable pub docketed_fields : TimeZone → SheetDeadline → List Field
docketed_fields zone d =
    field (codes "number") (amount d.number)
    ∷ field (codes "period") (or_null string (code_of d.row.period))
    ∷ field (codes "entered") (or_null entered_value (entered_of d.row.period))
    ∷ started_fields zone d.row

-- the field of the motion that suspends it, where its number is known
abbrev pub suspended_fields : (motion : Option ℕ) → List Field
suspended_fields (Some motion) = field (codes "suspended_by") (amount motion) ∷ []
suspended_fields None = []

-- the fields of why it is due no more, if it was ended
abbrev pub why_fields : Ending → List Field
why_fields why = field (codes "ended") (string (ending_word why)) ∷ suspended_fields (suspended_by why)

abbrev pub ended_fields : Option Ending → List Field
ended_fields (Some why) = why_fields why
ended_fields None = []

-- when its time ends, whether it was met, and why it is due no more, if it was ended
unfoldable pub outcome_fields : TimeZone → SheetDeadline → List Field
outcome_fields zone d =
    shown_fields zone d.shown
    ++ field (codes "state") (string (state_word d.state))
    ∷ field (codes "filed") (or_null (filed_value zone) d.row.filed)
    ∷ ended_fields d.ended

abbrev pub deadline_fields : TimeZone → SheetDeadline → List Field
deadline_fields zone d = docketed_fields zone d ++ outcome_fields zone d

unfoldable pub deadline_value : TimeZone → SheetDeadline → Json
deadline_value zone d = object_of (deadline_fields zone d)
