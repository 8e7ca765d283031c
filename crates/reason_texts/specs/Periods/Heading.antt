-- The period of a deadline in words, before the reasons.
use Rattle.std.specs.Prelude.{ℕ, ◌==◌, Bool, true, false, List, [], ◌++◌, Some, None, codes, if◌then◌else◌}
use Rattle.std.specs.Fmt.{decimal}
use Rattle.court_clock.specs.declared.direction.Direction.{Direction}
use Rattle.court_clock.specs.declared.direction.Direction.TheVariants.{After, Before}
use Rattle.rule6.specs.declared.timeliness.Act.{Act}
use Rattle.rule6.specs.declared.timeliness.Act.TheVariants.{Filing, Service}
use Rattle.rule_periods.specs.declared.mark.Mark.{Mark}
use Rattle.rule_periods.specs.declared.mark.Mark.TheVariants as mark
use Rattle.rule_periods.specs.declared.period.Entered.{Entered}
use Rattle.rule_periods.specs.declared.period.Length.{Length}
use Rattle.rule_periods.specs.declared.period.Length.TheVariants.{Days, Hours, ToDay, ToTime}
use Rattle.rule_periods.specs.declared.period.Period.{Period}
use Rattle.rule_periods.specs.declared.period.Period.TheVariants as period
use Rattle.rule_periods.specs.declared.rule.RulePeriod.{RulePeriod}
use Rattle.rule_periods.specs.declared.rule.RulePeriod.TheVariants.{Rule4m, Rule12a1Ai, Rule12a1AiiUs, Rule12a1AiiAbroad, Rule12a1B, Rule12a1C, Rule12a2, Rule12a3, Rule59b, Rule59e}
use Rattle.rule_periods.specs.Words.{DeadlineRowView, is_set_length, runs_from, terms_of}
use Rattle.reason_texts.specs.Words.{note_line}

-- `28 days`, `1 hour`
abbrev pub counted_text : ℕ → List ℕ → List ℕ
counted_text n unit = decimal n ++ codes " " ++ unit ++ (if n == 1 then [] else codes "s")

abbrev pub length_text : Length → List ℕ
length_text (Days n) = counted_text n (codes "day")
length_text (Hours h) = counted_text h (codes "hour")
length_text ToDay = codes "set by an order"
length_text ToTime = codes "set by an order"

-- the section that sets a period of the Rules
abbrev pub rule_section : RulePeriod → List ℕ
rule_section Rule4m = codes "4(m)"
rule_section Rule12a1Ai = codes "12(a)(1)(A)(i)"
rule_section Rule12a1AiiUs = codes "12(a)(1)(A)(ii)"
rule_section Rule12a1AiiAbroad = codes "12(a)(1)(A)(ii)"
rule_section Rule12a1B = codes "12(a)(1)(B)"
rule_section Rule12a1C = codes "12(a)(1)(C)"
rule_section Rule12a2 = codes "12(a)(2)"
rule_section Rule12a3 = codes "12(a)(3)"
rule_section Rule59b = codes "59(b)"
rule_section Rule59e = codes "59(e)"

-- what is to be done within it
abbrev pub rule_words : RulePeriod → List ℕ
rule_words Rule4m = codes "to serve the summons and complaint"
rule_words Rule12a1Ai = codes "an answer to the complaint"
rule_words Rule12a1AiiUs = codes "an answer, service waived"
rule_words Rule12a1AiiAbroad = codes "an answer, service waived abroad"
rule_words Rule12a1B = codes "an answer to a counterclaim or crossclaim"
rule_words Rule12a1C = codes "a reply to an answer"
rule_words Rule12a2 = codes "an answer of the United States"
rule_words Rule12a3 = codes "an answer of an officer sued individually"
rule_words Rule59b = codes "a motion for a new trial"
rule_words Rule59e = codes "a motion to alter or amend a judgment"

-- the event from which it runs
abbrev pub event_words : RulePeriod → List ℕ
event_words Rule4m = codes "from the filing of the complaint"
event_words Rule12a1Ai = codes "from service of the summons and complaint"
event_words Rule12a1AiiUs = codes "from when the request for a waiver was sent"
event_words Rule12a1AiiAbroad = codes "from when the request for a waiver was sent"
event_words Rule12a1B = codes "from service of the pleading that states it"
event_words Rule12a1C = codes "from service of the order to reply"
event_words Rule12a2 = codes "from service on the United States attorney"
event_words Rule12a3 = codes "from service on officer and US attorney, the later"
event_words Rule59b = codes "from the entry of judgment"
event_words Rule59e = codes "from the entry of judgment"

-- The section that a mark names, and that such a period is entered where it has none. The mark 60b stands on the periods of other sections
-- that no court extends, as a notice of appeal, since 60(b) itself counts no days: so it says why the time isn't extended.
abbrev pub mark_section : Mark → List ℕ
mark_section mark.Plain = codes "entered"
mark_section mark.Rule50b = codes "50(b)"
mark_section mark.Rule50d = codes "50(d)"
mark_section mark.Rule52b = codes "52(b)"
mark_section mark.Rule59b = codes "59(b)"
mark_section mark.Rule59d = codes "59(d)"
mark_section mark.Rule59e = codes "59(e)"
mark_section mark.Rule60b = codes "6(b)(2)"

-- what is to be done within the time of that section, or that it isn't extended
abbrev pub mark_words : Mark → List ℕ
mark_words mark.Plain = []
mark_words mark.Rule50b = codes "a renewed motion for judgment as a matter of law"
mark_words mark.Rule50d = codes "a motion for a new trial by the losing party"
mark_words mark.Rule52b = codes "a motion to amend or add findings"
mark_words mark.Rule59b = codes "a motion for a new trial"
mark_words mark.Rule59d = codes "a new trial on the court's own initiative"
mark_words mark.Rule59e = codes "a motion to alter or amend a judgment"
mark_words mark.Rule60b = codes "not extended, as a motion under 60(b)"

abbrev pub is_plain : Mark → Bool
is_plain mark.Plain = true
is_plain mark = false

-- the line of a mark that names a section
abbrev pub mark_line : Mark → List ℕ
mark_line mark = if is_plain mark then [] else note_line None (mark_words mark) (mark_section mark)

abbrev pub side_words : Direction → List ℕ
side_words After = codes " after "
side_words Before = codes " before "

-- what an entered period is measured from
abbrev pub start_words : (served : Bool) → List ℕ
start_words true = codes "service"
start_words false = codes "the event"

abbrev pub act_words : Act → List ℕ
act_words Filing = codes ", to file"
act_words Service = codes ", to serve"

-- from where an entered period is measured; an end that an order sets is measured from nothing
abbrev pub from_words : Entered → List ℕ
from_words entered = if is_set_length entered.length then [] else side_words entered.direction ++ start_words entered.served

-- `14 days before the event, to serve`, or `set by an order, to serve`
unfoldable pub entered_text : Entered → List ℕ
entered_text entered = length_text entered.length ++ from_words entered ++ act_words entered.act

-- `28 days, a motion to alter or amend a judgment`
unfoldable pub rule_text : DeadlineRowView → RulePeriod → List ℕ
rule_text row rule = length_text (Days (terms_of rule (runs_from row)).days) ++ codes ", " ++ rule_words rule

-- Of a period of the Rules its length, with what is to be done and the section that sets it, and the day and the event from
-- which it runs. Of an entered period how it is entered, and what its mark names.
abbrev pub heading_of : DeadlineRowView → Period → List ℕ
heading_of row (period.Rule rule) =
    note_line None (rule_text row rule) (rule_section rule) ++ note_line (Some (runs_from row)) (event_words rule) (rule_section rule)
heading_of row (period.Entered entered) =
    note_line None (entered_text entered) (codes "entered") ++ mark_line entered.mark

-- the lines that come before the reasons of a deadline
unfoldable pub heading_lines : DeadlineRowView → List ℕ
heading_lines row = heading_of row row.period
