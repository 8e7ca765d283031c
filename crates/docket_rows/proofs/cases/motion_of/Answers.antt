use Rattle.std.proofs.Common.{sym, ap, ◌∙◌, arith, option_map}
use Rattle.docket_rows.specs.declared.motion.MotionRecord.{MotionRecord}
use Rattle.docket_rows.proofs.NumberedLemmas.{find-numbered_motions, find-numbered_motions-below}
use Rattle.docket_rows.proofs.cases.motion_of.Goals as goal

pub returns-then-number-eq0 : goal.returns-then-number-eq0
returns-then-number-eq0 c = sym (find-numbered_motions-below c.args.rows.now c.args.number 1 0 (omega arith))

pub returns : goal.returns
returns c =
    ap (option_map (λ (m : MotionRecord). record { number = c.args.number; served = m.served; need = m.need; hearing = m.hearing })) c.motion_at.ensures
    ∙ sym (find-numbered_motions c.args.rows.now c.args.number 1 _ (omega arith))
