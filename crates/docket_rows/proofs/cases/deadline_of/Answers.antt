use Rattle.std.proofs.Common.{sym, ap, ◌∙◌, arith, option_map}
use Rattle.docket_rows.specs.Cases.{NumberedDeadline}
use Rattle.docket_rows.proofs.NumberedLemmas.{find-numbered_deadlines, find-numbered_deadlines-below}
use Rattle.docket_rows.proofs.cases.deadline_of.Goals as goal

pub returns-then-number-eq0 : goal.returns-then-number-eq0
returns-then-number-eq0 c =
    sym (ap (option_map (λ (d : NumberedDeadline). d.row)) (find-numbered_deadlines-below c.args.rows.now c.args.number 1 0 (omega arith)))

pub returns : goal.returns
returns c = c.deadline_at.ensures ∙ sym (find-numbered_deadlines c.args.rows.now c.args.number 1 _ (omega arith))
