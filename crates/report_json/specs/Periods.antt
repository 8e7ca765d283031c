-- The period of a deadline, and its extensions.
use Rattle.std.specs.Prelude.{ℕ, ℤ, true, List, [], ◌∷◌, ◌++◌, Option, Some, None, codes, if◌then◌else◌}
use Rattle.json.specs.Json.{Json, boolean, string}
use Rattle.rule6.specs.declared.service.ServiceKind.{ServiceKind}
use Rattle.rule6.specs.declared.service.ServiceKind.TheVariants.{HandA, LeftB, MailC, ClerkD, ElectronicE, OtherF}
use Rattle.rule_periods.specs.declared.grant.Grant.{Grant}
use Rattle.rule_periods.specs.declared.grant.Grant.TheVariants as grant
use Rattle.rule_periods.specs.declared.period.Entered.{Entered}
use Rattle.rule_periods.specs.declared.period.Length.{Length}
use Rattle.rule_periods.specs.declared.period.Length.TheVariants as lengths
use Rattle.rule_periods.specs.declared.period.Period.{Period}
use Rattle.rule_periods.specs.declared.period.Period.TheVariants as period
use Rattle.rule_periods.specs.Words.{is_set_length, mark_code, rule_code}
use Rattle.office_texts.specs.Words.{act_text, direction_text, start_text}
use Rattle.report_json.specs.Times.{day_value, minute_value}
use Rattle.report_json.specs.Values.{Field, amount, field, object_of, or_null}

-- the code of a period that the Rules set, or `set` where an order sets its end; and what a court entered
abbrev pub code_of : Period → Option (List ℕ)
code_of (period.Rule rule) = Some (rule_code rule)
code_of (period.Entered entered) = if is_set_length entered.length then Some (codes "set") else None

abbrev pub entered_of : Period → Option Entered
entered_of (period.Rule rule) = None
entered_of (period.Entered entered) = Some entered

abbrev pub days_of_length : Length → Option ℕ
days_of_length (lengths.Days n) = Some n
days_of_length (lengths.Hours n) = None
days_of_length lengths.ToDay = None
days_of_length lengths.ToTime = None

abbrev pub hours_of_length : Length → Option ℕ
hours_of_length (lengths.Days n) = None
hours_of_length (lengths.Hours n) = Some n
hours_of_length lengths.ToDay = None
hours_of_length lengths.ToTime = None

-- a period that a court entered, by its five words
abbrev pub entered_fields : Entered → List Field
entered_fields e =
    field (codes "days") (or_null amount (days_of_length e.length))
    ∷ field (codes "hours") (or_null amount (hours_of_length e.length))
    ∷ field (codes "direction") (string (direction_text e.direction))
    ∷ field (codes "act") (string (act_text e.act))
    ∷ field (codes "from") (string (start_text e.served))
    ∷ field (codes "mark") (string (mark_code e.mark))
    ∷ []

unfoldable pub entered_value : Entered → Json
entered_value e = object_of (entered_fields e)

-- the kind of service, by its letter in Rule 5(b)(2)
abbrev pub service_letter : ServiceKind → List ℕ
service_letter HandA = codes "A"
service_letter LeftB = codes "B"
service_letter MailC = codes "C"
service_letter ClerkD = codes "D"
service_letter ElectronicE = codes "E"
service_letter OtherF = codes "F"

abbrev pub service_value : ServiceKind → Json
service_value kind = string (service_letter kind)

abbrev pub days_of_grant : Grant → Option ℕ
days_of_grant (grant.ByDays n) = Some n
days_of_grant (grant.ByHours n) = None
days_of_grant (grant.Until day) = None
days_of_grant (grant.Reset day) = None
days_of_grant (grant.ResetAt at) = None

abbrev pub hours_of_grant : Grant → Option ℕ
hours_of_grant (grant.ByDays n) = None
hours_of_grant (grant.ByHours n) = Some n
hours_of_grant (grant.Until day) = None
hours_of_grant (grant.Reset day) = None
hours_of_grant (grant.ResetAt at) = None

abbrev pub day_of_grant : Grant → Option ℤ
day_of_grant (grant.ByDays n) = None
day_of_grant (grant.ByHours n) = None
day_of_grant (grant.Until day) = Some day
day_of_grant (grant.Reset day) = Some day
day_of_grant (grant.ResetAt at) = Some at.day

-- an extension: by days, by hours, or until a day
abbrev pub extension_fields : Grant → List Field
extension_fields g =
    field (codes "days") (or_null amount (days_of_grant g))
    ∷ field (codes "hours") (or_null amount (hours_of_grant g))
    ∷ field (codes "until") (or_null day_value (day_of_grant g))
    ∷ []

-- that an order set the end, and where it set one the time of day
abbrev pub order_fields : Grant → List Field
order_fields (grant.ByDays n) = []
order_fields (grant.ByHours n) = []
order_fields (grant.Until day) = []
order_fields (grant.Reset day) = field (codes "order") (boolean true) ∷ []
order_fields (grant.ResetAt at) = field (codes "order") (boolean true) ∷ field (codes "time") (minute_value at.minute) ∷ []

abbrev pub grant_fields : Grant → List Field
grant_fields g = extension_fields g ++ order_fields g

unfoldable pub grant_value : Grant → Json
grant_value g = object_of (grant_fields g)
