use Rattle.std.proofs.Common.{◌∙◌, sym}
use Rattle.desk_entries.proofs.PastLemmas.{note_corrected, note_counted, row_corrected, row_counted}
use Rattle.desk_entries.proofs.past.noted.Goals as goal

pub returns-then-is_row-clause-rows : goal.returns-then-is_row-clause-rows
returns-then-is_row-clause-rows c = row_counted c.args.entry.now c.args.rows (sym c.is_row.ensures ∙ c.if-is_row.true)

pub returns-then-is_row-clause-corrected : goal.returns-then-is_row-clause-corrected
returns-then-is_row-clause-corrected c = row_corrected c.args.entry.now c.args.rows c.args.before (sym c.is_row.ensures ∙ c.if-is_row.true)

pub returns-clause-rows : goal.returns-clause-rows
returns-clause-rows c = note_counted c.args.entry.now c.args.rows (sym c.is_row.ensures ∙ c.if-is_row.false)

pub returns-clause-corrected : goal.returns-clause-corrected
returns-clause-corrected c = note_corrected c.args.entry.now c.args.rows c.args.before (sym c.is_row.ensures ∙ c.if-is_row.false)
