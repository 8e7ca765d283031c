use Rattle.std.proofs.Common.{◌∙◌, ap, sym}
use Rattle.docket_selection.proofs.ChangesLemmas.HistoryLemmas.{followed_is}
use Rattle.docket_selection.specs.Changes.History.{changed_to}
use Rattle.docket_selection.proofs.changes.histories.note_hearing.Goals as goal

pub returns-in_ok-insert : goal.returns-in_ok-insert
returns-in_ok-insert c = λ case motion.
    followed_is c.args.judge c.args.histories.now c.insert.new.self c.args.change.now c.in-Some.after case motion
    (ap (λ before. changed_to c.args.judge before c.args.change.now.hearing) (sym (c.copied-before.ensures ∙ c.get.ensures.value)) ∙ sym c.in-Some.ensures) (c.in_ok-insert.ensures.updates.0 (case, motion))
