-- For what a day is looked for after some reasons, which decides the section that the next one cites.
use Rattle.std.specs.Prelude.{ℤ, pos, neg_ℤ, Bool, true, false}
use Rattle.court_clock.specs.declared.direction.Direction.TheVariants.{After}
use Rattle.rule_periods.specs.declared.grant.Grant.{Grant}
use Rattle.rule_periods.specs.declared.grant.Grant.TheVariants.{ResetAt}
use Rattle.rule_periods.specs.declared.period.Period.{Period}
use Rattle.rule_periods.specs.declared.period.Period.TheVariants.{Rule, Entered}
use Rattle.rule_periods.specs.declared.rule.RulePeriod.TheVariants.{Rule4m}
use Rattle.rule_periods.specs.Words.{direction_of, right_from}
use Rattle.deadline_reasons.specs.declared.reason.Reason.{Reason}
use Rattle.deadline_reasons.specs.declared.reason.Reason.TheVariants as reason
use Rattle.reason_texts.specs.declared.course.Course.{Course}
use Rattle.reason_texts.specs.declared.course.Search.{Search}
use Rattle.reason_texts.specs.declared.course.Search.TheVariants.{LastDay, SameTime, AccessibleDay, AccessibleHour, NoDay}

-- the time to serve a summons and complaint
abbrev pub is_summons : Period → Bool
is_summons (Rule Rule4m) = true
is_summons (Rule rule) = false
is_summons (Entered entered) = false

-- the first day that there is (`IsDayNumber` in court_days)
abbrev pub first_day : ℤ
first_day = neg_ℤ (pos 110_000)

-- the day from which a period is right as it is applied; one that a court enters is right from the first day on
abbrev pub right_from_of : Period → ℤ
right_from_of (Rule rule) = right_from rule
right_from_of (Entered entered) = first_day

-- before any reason
abbrev pub course_of : Period → Course
course_of period = record { search = LastDay; direction = direction_of period; summons = is_summons period; right_from = right_from_of period }

-- for what a day is looked for once this is granted: for none where an order sets a time
abbrev pub search_after : Grant → Search
search_after (ResetAt at) = NoDay
search_after grant = LastDay

-- After a reason. Days that are added, and accessible days, are looked for among later ones, whatever the period's
-- direction is.
abbrev pub course_after : Course → Reason → Course
course_after course (reason.SetAt instant) = record course { search = NoDay }
course_after course (reason.ThreeAdded kind) = record course { search = LastDay; direction = After }
course_after course (reason.Extended grant) = record course { search = search_after grant; direction = After }
course_after course (reason.Continued day second) = record course { search = SameTime }
course_after course (reason.Inaccessible outage) = record course { search = AccessibleDay; direction = After }
course_after course (reason.LastHour outage day second) = record course { search = AccessibleHour; direction = After }
course_after course r = course
