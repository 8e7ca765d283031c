-- The section of the Federal Rules of Civil Procedure by which a reason goes. What the Rules leave open is `ours`.
use Rattle.std.specs.Prelude.{ℕ, Bool, true, false, List, [], ◌++◌, codes}
use Rattle.court_clock.specs.declared.direction.Direction.{Direction}
use Rattle.court_clock.specs.declared.direction.Direction.TheVariants.{After, Before}
use Rattle.rule_periods.specs.declared.grant.Grant.{Grant}
use Rattle.rule_periods.specs.declared.grant.Grant.TheVariants.{Reset, ResetAt}
use Rattle.deadline_reasons.specs.declared.reason.Cause.TheVariants.{FederalHoliday, StateHoliday}
use Rattle.deadline_reasons.specs.declared.reason.Reason.{Reason}
use Rattle.deadline_reasons.specs.declared.reason.Reason.TheVariants as reason
use Rattle.reason_texts.specs.declared.course.Course.{Course}
use Rattle.reason_texts.specs.declared.course.Search.{Search}
use Rattle.reason_texts.specs.declared.course.Search.TheVariants.{LastDay, SameTime, AccessibleDay, AccessibleHour, NoDay}

-- the Committee Note says that 6(a) doesn't apply where a time is fixed
abbrev pub by_order : List ℕ
by_order = codes "6(a), 2009 Note"

-- by which a day is looked for, among earlier ones where a period is measured before its event (6(a)(5))
abbrev pub looked_by : Search → Direction → List ℕ
looked_by LastDay After = codes "6(a)(1)(C)"
looked_by LastDay Before = codes "6(a)(1)(C), 6(a)(5)"
looked_by SameTime After = codes "6(a)(2)(C)"
looked_by SameTime Before = codes "6(a)(2)(C), 6(a)(5)"
looked_by AccessibleDay direction = codes "6(a)(3)(A)"
looked_by AccessibleHour direction = codes "6(a)(3)(B)"
looked_by NoDay direction = by_order

-- by which the time ends at an instant: no hours are counted up to a time that an order sets
abbrev pub instant_section : Search → List ℕ
instant_section LastDay = codes "6(a)(2)"
instant_section SameTime = codes "6(a)(2)"
instant_section AccessibleDay = codes "6(a)(2)"
instant_section AccessibleHour = codes "6(a)(2)"
instant_section NoDay = by_order

-- by which time is extended
abbrev pub extended_by : (summons : Bool) → List ℕ
extended_by true = codes "4(m)"
extended_by false = codes "6(b)"

-- the same of what is granted: a time that an order sets is extended by no rule
abbrev pub granted_by : (summons : Bool) → Grant → List ℕ
granted_by summons (Reset day) = by_order
granted_by summons (ResetAt at) = by_order
granted_by summons grant = extended_by summons

-- by which a reason goes
abbrev pub section_of : Course → Reason → List ℕ
section_of course (reason.Excluded day) = codes "6(a)(1)(A)"
section_of course (reason.Set day) = by_order
section_of course (reason.SetAt instant) = by_order
section_of course (reason.Counted n day) = codes "6(a)(1)(B)"
section_of course (reason.PassedOver day cause) = looked_by course.search course.direction
section_of course (reason.RunsTo day) = looked_by course.search course.direction
section_of course (reason.SameTime day instant) = looked_by course.search course.direction
section_of course (reason.ThreeAdded kind) = codes "6(d)"
section_of course (reason.Extended grant) = granted_by course.summons grant
section_of course (reason.NotExtended grant) = granted_by course.summons grant
section_of course (reason.HoursFrom instant) = codes "6(a)(2)(A)"
section_of course (reason.HoursCounted h instant forward) = codes "6(a)(2)(B)"
section_of course (reason.EndsOn day) = codes "6(a)(2)(C)"
section_of course (reason.Continued day second) = codes "6(a)(2)(C)"
section_of course (reason.Inaccessible outage) = codes "6(a)(3)(A)"
section_of course (reason.LastHour outage day second) = codes "6(a)(3)(B)"
section_of course (reason.UntilClosing day closes until) = codes "6(a)(4)"
section_of course (reason.UntilInstant instant) = instant_section course.search
section_of course (reason.UntilMidnight day) = codes "ours"
section_of course reason.NotCovered = codes "ours"
section_of course reason.Beyond = codes "ours"

-- which says what a holiday is
abbrev pub holiday_section : Reason → List ℕ
holiday_section (reason.PassedOver day FederalHoliday) = codes ", 6(a)(6)"
holiday_section (reason.PassedOver day StateHoliday) = codes ", 6(a)(6)(C)"
holiday_section r = []

abbrev pub section_text : Course → Reason → List ℕ
section_text course r = section_of course r ++ holiday_section r
