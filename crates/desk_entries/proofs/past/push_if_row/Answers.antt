use Rattle.std.proofs.Common.{◌∙◌, ◌++◌, List, ap, append-nil, sym}
use Rattle.row_forms.specs.declared.numbered.NumberedRow.{NumberedRow}
use Rattle.desk_journal.specs.Words.{batch_of}
use Rattle.desk_entries.proofs.PastLemmas.{no_row_struck, note_counted, one_row_struck, row_counted}
use Rattle.desk_entries.proofs.past.push_if_row.Goals as goal

pub returns-then-not-is_row-clause-rows : goal.returns-then-not-is_row-clause-rows
returns-then-not-is_row-clause-rows c =
    let noted = sym c.is_row.ensures ∙ c.if-not-is_row.true in
    let rows : List NumberedRow = c.args.rows.now.items in
    sym (ap (λ (l : List NumberedRow). rows ++ l) (no_row_struck c.args.under.now c.args.moved.now c.args.number c.args.entry.now (batch_of c.args.later.now) noted) ∙ append-nil rows)

pub returns-then-not-is_row-clause-next : goal.returns-then-not-is_row-clause-next
returns-then-not-is_row-clause-next c = note_counted c.args.entry.now c.args.number (sym c.is_row.ensures ∙ c.if-not-is_row.true)

pub returns-clause-rows : goal.returns-clause-rows
returns-clause-rows c =
    let row = sym c.is_row.ensures ∙ c.if-not-is_row.false in
    c.in_ok-push_struck.ensures ∙ ap (λ (l : List NumberedRow). c.args.rows.now.items ++ l) (one_row_struck c.args.under.now c.args.moved.now c.args.number c.args.entry.now (batch_of c.args.later.now) row)

pub returns-clause-next : goal.returns-clause-next
returns-clause-next c = row_counted c.args.entry.now c.args.number (sym c.is_row.ensures ∙ c.if-not-is_row.false)
