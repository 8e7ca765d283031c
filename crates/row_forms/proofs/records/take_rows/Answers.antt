use Rattle.std.proofs.Common.{◌≡◌, ◌≤◌, ◌∙◌, Ok, true, sym, ap, arith, lit<}
use Rattle.std.specs.Global.{Vec}
use Rattle.std.specs.Result.{is_ok}
use Rattle.std.proofs.lemmas.Grind.{common_steps}
use Rattle.std.proofs.lemmas.Result.{err_from_is_err_and}
use Rattle.csv.specs.Records.{fields_of}
use Rattle.row_forms.specs.declared.row.Row.{Row}
use Rattle.row_forms.specs.CourtNames.{names_of}
use Rattle.row_forms.specs.Records.{records_left}
use Rattle.row_forms.specs.Rows.{most_rows}
use Rattle.row_forms.proofs.ReadingLemmas.{another}
use Rattle.row_forms.proofs.RowsLemmas.{office_row_of_no_text, rows_read_from-err, rows_read_from-fault, rows_read_from-nil, rows_read_from-past, rows_read_from-row}
use Rattle.row_forms.proofs.records.take_rows.Goals as goal

pub returns-in-End : goal.returns-in-End
returns-in-End c =
    let none = c.in_ok-read_next.ensures.end (ap Ok c.in-End.is) in
    sym c.loop-number.invariant.so_far ∙ rw none (rows_read_from-nil c.args.clerks (names_of c.args.court.now) c.loop-number.number c.loop-number.rows.items)

pub returns-in-NotText : goal.returns-in-NotText
returns-in-NotText c =
    let meets = c.in_ok-read_next.ensures.no_text (ap Ok c.in-NotText.is) in
    let few : c.loop-number.number ≤ most_rows = omega arith in
    sym c.loop-number.invariant.so_far
    ∙ rw meets.next (rows_read_from-fault c.args.clerks (names_of c.args.court.now) c.loop-number.number meets.fields meets.later c.loop-number.rows.items _ few (office_row_of_no_text c.args.clerks (names_of c.args.court.now) meets.fields meets.no_text))

pub returns-in_err-row-in-Text : goal.returns-in_err-row-in-Text
returns-in_err-row-in-Text c =
    let p = err_from_is_err_and c.from_residual-in_err-row-in-Text.result c.from_residual-in_err-row-in-Text.ensures.1 in
    let takes = c.in_ok-read_next.ensures.text (ap Ok c.in-Text.is) in
    let few : c.loop-number.number ≤ most_rows = omega arith in
    rw (p.1, p.2) (rows_read_from-err (λ (rows : Vec Row). rows.items) c.args.clerks (names_of c.args.court.now) c.loop-number.number (fields_of c.read_next.new.fields) (records_left c.read_next.new.reader) c.loop-number.rows.items _ c.in_err-row-in-Text.field-0.0 few (rw takes.next at c.loop-number.invariant.so_far) c.in_err-row-in-Text.ensures)

pub loop-number-preserved : goal.loop-number-preserved
loop-number-preserved c =
    let takes = c.in_ok-read_next.ensures.text (ap Ok c.in-Text.is) in
    let few : c.loop-number.number ≤ most_rows = omega arith in
    let good : is_ok c.push.result ≡ true = grind (arith, common_steps) in
    let items = rw good at c.push.ensures.items in
    let spelled = c.in_ok-row-in-Text.ensures in
    let step = rows_read_from-row c.args.clerks (names_of c.args.court.now) c.loop-number.number (fields_of c.read_next.new.fields) (records_left c.read_next.new.reader) c.loop-number.rows.items c.in_ok-row-in-Text.row few spelled in
    record { able = takes.onward; so_far = rw items (sym step ∙ rw takes.next at c.loop-number.invariant.so_far) }

pub returns-in-End-2 : goal.returns-in-End-2
returns-in-End-2 c =
    let none = c.in_ok-read_next-2.ensures.end (ap Ok c.in-End-2.is) in
    sym c.loop-number.invariant.so_far ∙ rw none (rows_read_from-nil c.args.clerks (names_of c.args.court.now) c.loop-number.number c.loop-number.rows.items)

pub returns : goal.returns
returns c =
    let ends : c.loop-number.number ≡ 100001 = omega arith in
    let read = c.in_ok-read_next-2.ensures in
    let (first, later, next) = another c.loop-number.reader c.read_next-2.new.reader (fields_of c.read_next-2.new.fields) c.in_ok-read_next-2.field-0 c.in_default.not-End read.text read.no_text in
    sym c.loop-number.invariant.so_far ∙ rw (next, ends) (rows_read_from-past c.args.clerks (names_of c.args.court.now) 100001 first later c.loop-number.rows.items (lit< tt))
