-- The text of a period, as rows name it.
use Rattle.std.specs.Prelude.{ℕ, Bool, true, false, List, ◌++◌, codes, if◌then◌else◌}
use Rattle.std.specs.Fmt.{decimal}
use Rattle.court_clock.specs.declared.direction.Direction.{Direction}
use Rattle.court_clock.specs.declared.direction.Direction.TheVariants.{After, Before}
use Rattle.rule6.specs.declared.timeliness.Act.{Act}
use Rattle.rule6.specs.declared.timeliness.Act.TheVariants.{Filing, Service}
use Rattle.rule_periods.specs.declared.period.Entered.{Entered}
use Rattle.rule_periods.specs.declared.period.Length.{Length}
use Rattle.rule_periods.specs.declared.period.Length.TheVariants.{Days, Hours, ToDay, ToTime}
use Rattle.rule_periods.specs.declared.period.Period.{Period}
use Rattle.rule_periods.specs.declared.period.Period.TheVariants as period
use Rattle.rule_periods.specs.Words.{is_set_length, mark_code, rule_code}

abbrev pub length_text : Length → List ℕ
length_text (Days n) = decimal n ++ codes "d"
length_text (Hours n) = decimal n ++ codes "h"
length_text ToDay = codes "set"
length_text ToTime = codes "set"

abbrev pub direction_text : Direction → List ℕ
direction_text After = codes "after"
direction_text Before = codes "before"

abbrev pub act_text : Act → List ℕ
act_text Filing = codes "filing"
act_text Service = codes "service"

-- from what it runs: from its event, or from service under Rule 5(b)(2)
abbrev pub start_text : (served : Bool) → List ℕ
start_text true = codes "served"
start_text false = codes "event"

-- `28d/after/filing/event/plain`
abbrev pub measured_text : Entered → List ℕ
measured_text e =
    length_text e.length ++ codes "/" ++ direction_text e.direction ++ codes "/" ++ act_text e.act ++ codes "/" ++ start_text e.served ++ codes "/" ++ mark_code e.mark

-- `set/filing`: an order sets the end
abbrev pub set_text : Entered → List ℕ
set_text e = length_text e.length ++ codes "/" ++ act_text e.act

abbrev pub entered_text : Entered → List ℕ
entered_text e = if is_set_length e.length then set_text e else measured_text e

-- the code of a period that the Rules set, the five words of one that a court enters, or the two of an end that an order sets
unfoldable pub period_text : Period → List ℕ
period_text (period.Rule rule) = rule_code rule
period_text (period.Entered e) = entered_text e
