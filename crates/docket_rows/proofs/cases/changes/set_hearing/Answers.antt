use Rattle.std.proofs.Common.{◌-◌, set, refl, sym, ap, ◌∙◌, arith}
use Rattle.std.proofs.lemmas.List.{length-set}
use Rattle.docket_rows.specs.declared.motion.MotionRecord.{MotionRecord}
use Rattle.docket_rows.specs.Cases.{numbered_motions}
use Rattle.docket_rows.proofs.NumberedLemmas.{with_hearing-above, with_hearing-past, with_hearing-at}
use Rattle.docket_rows.proofs.cases.changes.set_hearing.Goals as goal
use Rattle.docket_rows.proofs.cases.changes.set_hearing.Goals.{then-number-eq0-via-then-number-eq0, then-number-eq0-via-else-number-eq0+then-len-number}

pub returns-then-number-eq0 : goal.returns-then-number-eq0
returns-then-number-eq0 c = elim c.then-number-eq0.branch [
  | then-number-eq0-via-then-number-eq0 w ↦ record { count = refl; rows = sym (with_hearing-above c.args.hearing c.args.motions.now.items c.args.number 1 (omega arith)) }
  | then-number-eq0-via-else-number-eq0+then-len-number w ↦ record { count = refl; rows = sym (with_hearing-past c.args.hearing c.args.motions.now.items c.args.number 1 (omega (arith, w.len.ensures, c.args.motions.now.ok.0))) }
]

pub returns : goal.returns
returns c =
    let ms = c.args.motions.now.items in
    record {
      count = length-set c.args.motions.now.items (c.args.number - 1) _;
      rows =
          ap (λ (m : MotionRecord). numbered_motions 1 (set ms (c.args.number - 1) (record { served = m.served; need = m.need; hearing = c.args.hearing }))) c.index_mut-motion.ensures.value
          ∙ sym (with_hearing-at c.args.hearing ms c.args.number 1 (c.args.number - 1) c.index_mut-motion.result.now (omega arith) (omega (arith, c.len.ensures, c.args.motions.now.ok.0)));
    }
