-- What is said of a deadline's period, by the day from which it runs.
use Rattle.std.specs.Prelude.{ℤ}
use Rattle.rule6.specs.declared.timeliness.Act.{Act}
use Rattle.rule_periods.specs.declared.rule.ExtensionRule.{ExtensionRule}
use Rattle.rule_periods.specs.Base.{later_event}
use Rattle.rule_periods.specs.Deadline.{DeadlineRowView}
use Rattle.rule_periods.specs.Period.{act_of, extension_of}

-- the day from which the period runs: that of its event, or the later of two
abbrev pub runs_from : DeadlineRowView → ℤ
runs_from row = later_event row.event.day row.second

-- what must be done in time
abbrev pub act_due : DeadlineRowView → Act
act_due row = act_of row.period (runs_from row)

-- how the time may be extended
abbrev pub extension_due : DeadlineRowView → ExtensionRule
extension_due row = extension_of row.period (runs_from row)
