-- The periods that the Rules set: what the table says of each, from which day on it is right, and the code of each.
use Rattle.std.specs.Prelude.{◌≡◌, ◌↔◌, ℕ, ℤ, pos, Bool, true, false, List, Option, Some, None, codes, if◌then◌else◌}
use Rattle.std.specs.Str.{bytes_eq}
use Rattle.jiff_core.specs.Calendar.{days_from_civil}
use Rattle.rule6.specs.declared.timeliness.Act.{Act}
use Rattle.rule6.specs.declared.timeliness.Act.TheVariants.{Filing, Service}
use Rattle.rule_periods.specs.declared.rule.Terms.{Terms}
use Rattle.rule_periods.specs.declared.rule.RulePeriod.{RulePeriod}
use Rattle.rule_periods.specs.declared.rule.RulePeriod.TheVariants.{Rule4m, Rule12a1Ai, Rule12a1AiiUs, Rule12a1AiiAbroad, Rule12a1B, Rule12a1C, Rule12a2, Rule12a3, Rule59b, Rule59e}
use Rattle.rule_periods.specs.declared.rule.ServiceRule.{ServiceRule}
use Rattle.rule_periods.specs.declared.rule.ServiceRule.TheVariants as service
use Rattle.rule_periods.specs.declared.rule.ExtensionRule.{ExtensionRule}
use Rattle.rule_periods.specs.declared.rule.ExtensionRule.TheVariants.{WithoutFindings, GoodCause, Never}

-- a row of the table: the days, what must be done in time, and how the time may be extended
abbrev row : ℕ → Act → ExtensionRule → Terms
row days act extension = record { days = days; act = act; extension = extension }

-- The table, by the day from which a period runs: that of its event, or the later of two. These terms are applied to
-- every day, also to one before `right_from`.
abbrev pub terms_of : RulePeriod → ℤ → Terms
-- 4(m): 90 days after the complaint is filed to serve the defendant; extended for cause, without findings
terms_of Rule4m day = row 90 Service WithoutFindings
-- 12(a)(1)(A)(i): 21 days after service of the summons and complaint to serve an answer
terms_of Rule12a1Ai day = row 21 Service GoodCause
-- 12(a)(1)(A)(ii): 60 days after the request for a waiver was sent
terms_of Rule12a1AiiUs day = row 60 Service GoodCause
-- 12(a)(1)(A)(ii): 90 days where it was sent outside any judicial district of the United States
terms_of Rule12a1AiiAbroad day = row 90 Service GoodCause
-- 12(a)(1)(B): 21 days after service of the pleading that states the counterclaim or crossclaim
terms_of Rule12a1B day = row 21 Service GoodCause
-- 12(a)(1)(C): 21 days after service of an order to reply
terms_of Rule12a1C day = row 21 Service GoodCause
-- 12(a)(2): 60 days after service on the United States attorney
terms_of Rule12a2 day = row 60 Service GoodCause
-- 12(a)(3): 60 days after service on the officer or on the United States attorney, whichever is later
terms_of Rule12a3 day = row 60 Service GoodCause
-- 59(b): 28 days after the entry of judgment to move for a new trial; never extended (6(b)(2))
terms_of Rule59b day = row 28 Filing Never
-- 59(e): 28 days after the entry of judgment to move to alter or amend it; never extended (6(b)(2))
terms_of Rule59e day = row 28 Filing Never

-- 2009-12-01, the day on which the amendments took effect by which every day counts (Fed. R. Civ. P. 6(a)(1)), and which
-- set periods of 21 and 28 days
abbrev pub counting_amended : ℤ
counting_amended = days_from_civil (pos 2009) 12 1

-- 2015-12-01, the day on which the amendment of Rule 4(m) took effect
abbrev pub summons_amended : ℤ
summons_amended = days_from_civil (pos 2015) 12 1

-- the day from which the table has what the Rules say of a period that runs from that day, or from a later one
abbrev pub right_from : RulePeriod → ℤ
-- 4(m): 120 days before
right_from Rule4m = summons_amended
-- 12(a)(1)(A)(i), (B) and (C): 20 days before
right_from Rule12a1Ai = counting_amended
right_from Rule12a1B = counting_amended
right_from Rule12a1C = counting_amended
-- 12(a)(1)(A)(ii), 12(a)(2) and (3): as many days before, counted otherwise
right_from Rule12a1AiiUs = counting_amended
right_from Rule12a1AiiAbroad = counting_amended
right_from Rule12a2 = counting_amended
right_from Rule12a3 = counting_amended
-- 59(b) and (e): 10 days before
right_from Rule59b = counting_amended
right_from Rule59e = counting_amended

-- Whether a kind of service goes with the period. It is the same for every day, since a row says it beside the day.
abbrev pub service_rule_of : RulePeriod → ServiceRule
-- 12(a)(1)(B) and (C) run from service under Rule 5(b)(2)
service_rule_of Rule12a1B = service.Required
service_rule_of Rule12a1C = service.Required
-- with 59(b) and (e) a kind may be noted
service_rule_of Rule59b = service.MayBeNoted
service_rule_of Rule59e = service.MayBeNoted
-- with no other
service_rule_of rule = service.None

-- Whether a second day goes with the period, so that it runs from the later of the two. It decides which day that is, so
-- it is the same for every day.
abbrev pub takes_second_day : RulePeriod → Bool
-- 12(a)(3): service on the officer, and on the United States attorney
takes_second_day Rule12a3 = true
takes_second_day rule = false

-- the code by which rows and sheets name the period
abbrev pub rule_code : RulePeriod → List ℕ
rule_code Rule4m = codes "4m"
rule_code Rule12a1Ai = codes "12a1Ai"
rule_code Rule12a1AiiUs = codes "12a1Aii-us"
rule_code Rule12a1AiiAbroad = codes "12a1Aii-abroad"
rule_code Rule12a1B = codes "12a1B"
rule_code Rule12a1C = codes "12a1C"
rule_code Rule12a2 = codes "12a2"
rule_code Rule12a3 = codes "12a3"
rule_code Rule59b = codes "59b"
rule_code Rule59e = codes "59e"

-- the period that a code names
abbrev pub rule_of_code : List ℕ → Option RulePeriod
rule_of_code text =
    if bytes_eq text (rule_code Rule4m) then Some Rule4m
    else if bytes_eq text (rule_code Rule12a1Ai) then Some Rule12a1Ai
    else if bytes_eq text (rule_code Rule12a1AiiUs) then Some Rule12a1AiiUs
    else if bytes_eq text (rule_code Rule12a1AiiAbroad) then Some Rule12a1AiiAbroad
    else if bytes_eq text (rule_code Rule12a1B) then Some Rule12a1B
    else if bytes_eq text (rule_code Rule12a1C) then Some Rule12a1C
    else if bytes_eq text (rule_code Rule12a2) then Some Rule12a2
    else if bytes_eq text (rule_code Rule12a3) then Some Rule12a3
    else if bytes_eq text (rule_code Rule59b) then Some Rule59b
    else if bytes_eq text (rule_code Rule59e) then Some Rule59e
    else None

-- what reading a code means: its answer is the one period with that code
abbrev pub CodesNamePeriods : Type 0
CodesNamePeriods = (text : List ℕ) (rule : RulePeriod) → (rule_of_code text ≡ Some rule) ↔ (rule_code rule ≡ text)
