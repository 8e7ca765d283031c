-- The period of a deadline called by its Rule and its name, before the reasons.
use Rattle.std.specs.Prelude.{ℕ, List, ◌++◌, Some, None, codes}
use Rattle.rule_periods.specs.declared.period.Length.TheVariants.{Days}
use Rattle.rule_periods.specs.declared.period.Period.{Period}
use Rattle.rule_periods.specs.declared.period.Period.TheVariants as period
use Rattle.rule_periods.specs.declared.rule.RulePeriod.{RulePeriod}
use Rattle.rule_periods.specs.Words.{DeadlineRowView, runs_from, terms_of}
use Rattle.reason_texts.specs.Words.{note_line}
use Rattle.reason_texts.specs.Periods.Heading.{entered_text, event_words, length_text, mark_line, rule_section, rule_words}

-- `Rule 59(e): a motion to alter or amend a judgment, 28 days`
unfoldable pub rule_called : DeadlineRowView → RulePeriod → List ℕ
rule_called row rule =
    codes "Rule " ++ rule_section rule ++ codes ": " ++ rule_words rule ++ codes ", " ++ length_text (Days (terms_of rule (runs_from row)).days)

-- Of a period of the Rules the section that sets it, with what is to be done and its length, and the day and the event from which
-- it runs. Of an entered period how it is entered with what comes after that, and what its mark names.
abbrev pub called_of : (back : List ℕ) → DeadlineRowView → Period → List ℕ
called_of back row (period.Rule rule) =
    note_line None (rule_called row rule) (rule_section rule) ++ note_line (Some (runs_from row)) (event_words rule) (rule_section rule)
called_of back row (period.Entered entered) =
    note_line None (entered_text entered ++ back) (codes "entered") ++ mark_line entered.mark

-- the lines that come before the reasons of a deadline, where its period is called by its Rule
unfoldable pub called_lines : (back : List ℕ) → DeadlineRowView → List ℕ
called_lines back row = called_of back row row.period
