-- Whether the time may be extended (Fed. R. Civ. P. 6(b)), and whether an order may set another end.
use Rattle.std.specs.Prelude.{Bool, true, false, ◌&&◌, not, int_le, int_lt, List, [], ◌∷◌, ℤ, Option, Some, None, if◌then◌else◌}
use Rattle.court_clock.specs.Words.{CivilTime, ClockView, civil_of}
use Rattle.court_days.specs.Words.{DaysView, is_covered}
use Rattle.rule6.specs.declared.timeliness.Means.TheVariants.{Electronic}
use Rattle.rule6.specs.declared.timeliness.Shown.{Shown}
use Rattle.rule6.specs.Words.{is_in_time}
use Rattle.rule6.specs.declared.timeliness.Shown.TheVariants as shown
use Rattle.rule_periods.specs.declared.grant.Grant.{Grant}
use Rattle.rule_periods.specs.declared.grant.Grant.TheVariants.{ByDays, ByHours, Until, Reset, ResetAt}
use Rattle.rule_periods.specs.declared.grant.Request.{Request}
use Rattle.rule_periods.specs.declared.refusal.PeriodRefusal.{PeriodRefusal}
use Rattle.rule_periods.specs.declared.refusal.PeriodRefusal.TheVariants.{BadDay, BadLength, Beyond, NotExtendable, NoGoodCause, LateWithoutMotion, LateWithoutNeglect, NotLonger, WrongGrant}
use Rattle.rule_periods.specs.declared.rule.ExtensionRule.{ExtensionRule}
use Rattle.rule_periods.specs.declared.rule.ExtensionRule.TheVariants.{WithoutFindings, GoodCause, Never}
use Rattle.rule_periods.specs.Deadline.{DeadlineRowView, with_grant}
use Rattle.rule_periods.specs.Due.{extension_due}
use Rattle.rule_periods.specs.Event.{EventView}
use Rattle.rule_periods.specs.FirstRefusal.{when, first_of}
use Rattle.rule_periods.specs.Grant.{grant_fits, is_grant_length, is_order}
use Rattle.rule_periods.specs.Period.{is_in_hours}
use Rattle.rule_periods.specs.Showing.{shown_of}

-- the day until which an extension runs, or to which an order sets the end, is covered
abbrev pub is_covered_grant : DaysView → Grant → Bool
is_covered_grant c (ByDays n) = true
is_covered_grant c (ByHours h) = true
is_covered_grant c (Until d) = is_covered c d
is_covered_grant c (Reset d) = is_covered c d
is_covered_grant c (ResetAt at) = is_covered c at.day

-- no covered day qualifies
abbrev pub is_beyond : Shown → Bool
is_beyond shown.Beyond = true
is_beyond (shown.Last d act) = false
is_beyond (shown.Until t) = false

-- the time must not be extended (6(b)(2))
abbrev pub is_never : ExtensionRule → Bool
is_never WithoutFindings = false
is_never GoodCause = false
is_never Never = true

-- The findings of 6(b)(1) are required. An extension under 4(m) requires none.
abbrev pub asks_findings : ExtensionRule → Bool
asks_findings WithoutFindings = false
asks_findings GoodCause = true
asks_findings Never = false

-- a request is in time where an electronic filing at its moment would be
abbrev pub is_asked_in_time : ClockView → Shown → EventView → Bool
is_asked_in_time clock now asked = is_in_time clock now (record { day = asked.day; minute = asked.minute; means = Electronic })

-- the second end is later than the first
abbrev pub is_later : Shown → Shown → Bool
is_later (shown.Last d act) (shown.Last e act') = int_lt d e
is_later (shown.Until t) (shown.Until u) = int_lt t u
is_later _ _ = false

-- what the court's clock shows at an instant is on the day or before it, and is on a later day
abbrev pub is_by_day : (day : ℤ) → Option CivilTime → Bool
is_by_day day (Some at) = int_le at.day day
is_by_day day None = false

abbrev pub is_after_day : (day : ℤ) → Option CivilTime → Bool
is_after_day day (Some at) = int_lt day at.day
is_after_day day None = false

-- The second end is no later than the first. A time of day is no later than a last day if it is of that day or an earlier one, and a last
-- day is sooner than a time of day only if that is of a later day.
abbrev pub is_no_later : ClockView → Shown → Shown → Bool
is_no_later clock (shown.Last d act) (shown.Last e act') = int_le e d
is_no_later clock (shown.Last d act) (shown.Until u) = is_by_day d (civil_of clock.zone u)
is_no_later clock (shown.Until t) (shown.Last e act) = is_after_day e (civil_of clock.zone t)
is_no_later clock (shown.Until t) (shown.Until u) = int_le u t
is_no_later clock _ _ = false

-- The extension is of the kind of the end as it is, which is another than the period's where an order set it: by days or to a date from a
-- last day, and by hours from an instant.
abbrev pub fits_end : Shown → Grant → Bool
fits_end (shown.Last d act) grant = grant_fits false grant
fits_end (shown.Until t) grant = grant_fits true grant
fits_end shown.Beyond grant = true

-- In this order: the day asked or that of a date certain isn't covered; the deadline is beyond; its time must not be
-- extended; the extension is of another kind than the period, or than its end as it is; its length is out of range; there is no good cause
-- (6(b)(1)); asked late, there is no motion, and no excusable neglect (6(b)(1)(B)); the extended deadline would be
-- beyond; it wouldn't be later.
abbrev pub extension_checks : DaysView → ClockView → DeadlineRowView → Request → List (Option PeriodRefusal)
extension_checks c clock row request =
    let now = shown_of c clock row in
    let anew = shown_of c clock (with_grant row request.grant) in
    let rule = extension_due row in
    let late = not (is_asked_in_time clock now request.asked) in
    (when (not (is_covered c request.asked.day && is_covered_grant c request.grant)) BadDay
    ∷ when (is_beyond now) Beyond
    ∷ when (is_never rule) NotExtendable
    ∷ when (not (grant_fits (is_in_hours row.period) request.grant)) WrongGrant
    ∷ when (not (fits_end now request.grant)) WrongGrant
    ∷ when (not (is_grant_length request.grant)) BadLength
    ∷ when (asks_findings rule && not request.cause) NoGoodCause
    ∷ when (asks_findings rule && late && not request.motion) LateWithoutMotion
    ∷ when (asks_findings rule && late && not request.neglect) LateWithoutNeglect
    ∷ when (is_beyond anew) Beyond
    ∷ when (not (is_later now anew)) NotLonger
    ∷ [])

-- An order needs no findings, and the end may be sooner, and of another kind than the period. In this order: the day of the order or that of
-- the end isn't covered; the time must not be extended (6(b)(2)) and the end would be later.
abbrev pub reset_checks : DaysView → ClockView → DeadlineRowView → Request → List (Option PeriodRefusal)
reset_checks c clock row request =
    let now = shown_of c clock row in
    let anew = shown_of c clock (with_grant row request.grant) in
    (when (not (is_covered c request.asked.day && is_covered_grant c request.grant)) BadDay
    ∷ when (is_never (extension_due row) && not (is_no_later clock now anew)) NotExtendable
    ∷ [])

-- the first refusal of what was asked for, and of what an order sets, or none
unfoldable pub request_refusal : DaysView → ClockView → DeadlineRowView → Request → Option PeriodRefusal
request_refusal c clock row request = first_of (extension_checks c clock row request)

unfoldable pub reset_refusal : DaysView → ClockView → DeadlineRowView → Request → Option PeriodRefusal
reset_refusal c clock row request = first_of (reset_checks c clock row request)

-- the first refusal of either, or none
unfoldable pub extension_refusal : DaysView → ClockView → DeadlineRowView → Request → Option PeriodRefusal
extension_refusal c clock row request =
    if is_order request.grant then reset_refusal c clock row request else request_refusal c clock row request
