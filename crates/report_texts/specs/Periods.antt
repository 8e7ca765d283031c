-- The period of a deadline, in words.
use Rattle.std.specs.Prelude.{ℕ, ◌==◌, Bool, true, false, List, [], ◌++◌, codes, if◌then◌else◌}
use Rattle.std.specs.Fmt.{decimal}
use Rattle.court_clock.specs.declared.direction.Direction.{Direction}
use Rattle.court_clock.specs.declared.direction.Direction.TheVariants.{After, Before}
use Rattle.rule6.specs.declared.timeliness.Act.{Act}
use Rattle.rule6.specs.declared.timeliness.Act.TheVariants.{Filing, Service}
use Rattle.rule_periods.specs.declared.mark.Mark.{Mark}
use Rattle.rule_periods.specs.declared.mark.Mark.TheVariants.{Plain}
use Rattle.rule_periods.specs.declared.period.Entered.{Entered}
use Rattle.rule_periods.specs.declared.period.Length.{Length}
use Rattle.rule_periods.specs.declared.period.Length.TheVariants.{Days, Hours, ToDay, ToTime}
use Rattle.rule_periods.specs.declared.period.Period.{Period}
use Rattle.rule_periods.specs.declared.period.Period.TheVariants as period
use Rattle.rule_periods.specs.Words.{is_set_length, mark_code, rule_code}

abbrev pub unit_words : (count : ℕ) → (one more : List ℕ) → List ℕ
unit_words count one more = if count == 1 then one else more

abbrev pub length_words : Length → List ℕ
length_words (Days n) = decimal n ++ unit_words n (codes " day") (codes " days")
length_words (Hours n) = decimal n ++ unit_words n (codes " hour") (codes " hours")
length_words ToDay = codes "set by an order"
length_words ToTime = codes "set by an order"

-- on which side of what it runs from it lies: its event, or service under Rule 5(b)(2)
abbrev pub start_words : Direction → (served : Bool) → List ℕ
start_words After false = codes " after the event"
start_words After true = codes " after service"
start_words Before false = codes " before the event"
start_words Before true = codes " before service"

abbrev pub act_words : Act → List ℕ
act_words Filing = codes ", to file"
act_words Service = codes ", to serve"

-- the rule under which a period runs, if it is a special one
abbrev pub mark_words : Mark → List ℕ
mark_words Plain = []
mark_words mark = codes " (" ++ mark_code mark ++ codes ")"

-- from where an entered period is measured; an end that an order sets is measured from nothing
abbrev pub from_words : Entered → List ℕ
from_words e = if is_set_length e.length then [] else start_words e.direction e.served

-- `28 days after the event, to file (60b)`, or `set by an order, to file`
abbrev pub entered_words : Entered → List ℕ
entered_words e = length_words e.length ++ from_words e ++ act_words e.act ++ mark_words e.mark

-- the code of a period that the Rules set, or what a court entered
unfoldable pub period_words : Period → List ℕ
period_words (period.Rule rule) = rule_code rule
period_words (period.Entered e) = entered_words e
