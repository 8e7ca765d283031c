use Rattle.std.proofs.Common.{◌∙◌, sym}
use Rattle.reason_notes.specs.Readings.Words.{other_end}
use Rattle.docket_selection.specs.Items.{deadline_item}
use Rattle.docket_selection.proofs.DueLemmas.{not_due_by_either}
use Rattle.docket_selection.proofs.due.due_deadline.Goals as goal

pub returns-then-not-is_due_any_day : goal.returns-then-not-is_due_any_day
returns-then-not-is_due_any_day c =
    not_due_by_either c.args.clock.now c.args.choice.now c.args.before (other_end c.args.days.now c.args.clock.now c.args.deadline.now.row) (deadline_item c.args.clock.now c.args.case c.args.deadline.now) _
    (sym c.deadline_item.ensures ∙ c.in-Some.is) (sym c.is_due_any_day.ensures ∙ c.if-not-is_due_any_day.true)
