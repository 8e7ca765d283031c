use Rattle.std.proofs.Common.{◌-◌, set, refl, sym, ap, ◌∙◌, arith}
use Rattle.std.proofs.lemmas.List.{length-set}
use Rattle.rule_periods.specs.Words.{DeadlineRowView, anew}
use Rattle.docket_rows.specs.Cases.{numbered_deadlines}
use Rattle.docket_rows.proofs.NumberedLemmas.{with_row-above, with_row-past, with_row-at}
use Rattle.docket_rows.proofs.cases.changes.run_anew.Goals as goal
use Rattle.docket_rows.proofs.cases.changes.run_anew.Goals.{then-number-eq0-via-then-number-eq0, then-number-eq0-via-else-number-eq0+then-len-number}

pub returns-then-number-eq0 : goal.returns-then-number-eq0
returns-then-number-eq0 c =
    let change = λ (row : DeadlineRowView). anew row c.args.day in
    elim c.then-number-eq0.branch [
      | then-number-eq0-via-then-number-eq0 w ↦ record { count = refl; rows = sym (with_row-above change c.args.rows.now.items c.args.number 1 (omega arith)) }
      | then-number-eq0-via-else-number-eq0+then-len-number w ↦ record { count = refl; rows = sym (with_row-past change c.args.rows.now.items c.args.number 1 (omega (arith, w.len.ensures, c.args.rows.now.ok.0))) }
    ]

pub returns : goal.returns
returns c =
    let change = λ (row : DeadlineRowView). anew row c.args.day in
    let rows = c.args.rows.now.items in
    record {
      count = length-set c.args.rows.now.items (c.args.number - 1) _;
      rows =
          ap (λ (r : DeadlineRowView). numbered_deadlines 1 (set rows (c.args.number - 1) r)) (c.run_anew.ensures ∙ ap change c.index_mut-row.ensures.value)
          ∙ sym (with_row-at change rows c.args.number 1 (c.args.number - 1) c.index_mut-row.result.now (omega arith) (omega (arith, c.len.ensures, c.args.rows.now.ok.0)));
    }
