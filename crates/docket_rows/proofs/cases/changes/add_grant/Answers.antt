use Rattle.std.proofs.Common.{◌≡◌, ◌-◌, true, Option, Some, IfSome, refl, sym, subst, ap, ◌∙◌, arith, is_ok}
use Rattle.std.proofs.lemmas.List.{length-set}
use Rattle.rule_periods.specs.Words.{DeadlineRowView, with_grant, grant_fits, is_in_hours}
use Rattle.docket_rows.proofs.NumberedLemmas.{find-numbered_deadlines, at_place, extended_or_not, with_row-above, with_row-past}
use Rattle.docket_rows.proofs.cases.changes.add_grant.Goals as goal
use Rattle.docket_rows.proofs.cases.changes.add_grant.Goals.{then-number-eq0-via-then-number-eq0, then-number-eq0-via-else-number-eq0+then-len-number}

pub returns-then-number-eq0 : goal.returns-then-number-eq0
returns-then-number-eq0 c =
    let change = λ (row : DeadlineRowView). with_grant row c.args.grant in
    elim c.then-number-eq0.branch [
      | then-number-eq0-via-then-number-eq0 w ↦ record { count = refl; rows = sym (with_row-above change c.args.rows.now.items c.args.number 1 (omega arith)) }
      | then-number-eq0-via-else-number-eq0+then-len-number w ↦ record { count = refl; rows = sym (with_row-past change c.args.rows.now.items c.args.number 1 (omega (arith, w.len.ensures, c.args.rows.now.ok.0))) }
    ]

pub add_grant-requires-clause-fits : goal.add_grant-requires-clause-fits
add_grant-requires-clause-fits c =
    let rows = c.args.rows.now.items in
    let P : Option DeadlineRowView → Type 0 = λ o. IfSome o (λ row. grant_fits (is_in_hours row.period) c.args.grant ≡ true) in
    subst P (find-numbered_deadlines rows c.args.number 1 (c.args.number - 1) (omega arith) ∙ at_place rows (c.args.number - 1) c.index_mut-row.result.now (omega (arith, c.len.ensures, c.args.rows.now.ok.0)) ∙ ap Some (sym c.index_mut-row.ensures.value)) c.requires.fits

pub returns : goal.returns
returns c =
    record {
      count = length-set c.args.rows.now.items (c.args.number - 1) _;
      rows =
          extended_or_not (is_ok c.add_grant.result) c.args.rows.now.items c.args.number c.index_mut-row.result.now c.add_grant.new.self c.args.grant (omega arith) (omega (arith, c.len.ensures, c.args.rows.now.ok.0)) c.index_mut-row.ensures.value c.add_grant.ensures;
    }
