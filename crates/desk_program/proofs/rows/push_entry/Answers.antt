use Rattle.std.proofs.Common.{◌∙◌, ◌++◌, ℕ, List, ap, append-nil, sym}
use Rattle.desk_entries.proofs.CallerLemmas.{none_counted, one_counted}
use Rattle.desk_program.proofs.RowsLemmas.{no_row_written, one_row_written}
use Rattle.desk_program.proofs.rows.push_entry.Goals as goal

pub returns-then-not-is_row-clause-text : goal.returns-then-not-is_row-clause-text
returns-then-not-is_row-clause-text c =
    let noted = sym c.is_row.ensures ∙ c.if-not-is_row.true in
    let text : List ℕ = c.args.text.now.items in
    sym (ap (λ (l : List ℕ). text ++ l) (no_row_written c.args.under.now c.args.moved.now c.args.number c.args.entry.now noted) ∙ append-nil text)

pub returns-then-not-is_row-clause-next : goal.returns-then-not-is_row-clause-next
returns-then-not-is_row-clause-next c = none_counted c.args.entry.now c.args.number (sym c.is_row.ensures ∙ c.if-not-is_row.true)

pub returns-clause-text : goal.returns-clause-text
returns-clause-text c =
    let row = sym c.is_row.ensures ∙ c.if-not-is_row.false in
    c.in_ok-push_row.ensures ∙ ap (λ (l : List ℕ). c.args.text.now.items ++ l) (sym (one_row_written c.args.under.now c.args.moved.now c.args.number c.args.entry.now row))

pub returns-clause-next : goal.returns-clause-next
returns-clause-next c = one_counted c.args.entry.now c.args.number (sym c.is_row.ensures ∙ c.if-not-is_row.false)
