use Rattle.std.proofs.Common.{◌≡◌, ◌∙◌, ◌+◌, ◌≤◌, ◌<◌, length, arith}
use Rattle.std.specs.Global.{Vec}
use Rattle.row_forms.specs.declared.row.Row.{Row}
use Rattle.row_forms.specs.Rows.{most_rows, rows_read_from}
use Rattle.program_runs.proofs.ParallelLemmas.RowLemmas.{later_error, later_rows, many_later, rows_joined}
use Rattle.program_runs.proofs.parallel.joining.join_rows.Goals as goal

pub returns-then-len : goal.returns-then-len
returns-then-len c = λ clerks names firsts laters first later.
    let read = rw c.in-Ok.is at later in
    let rows = c.args.rows.items in
    let more = c.in-Ok.later.items in
    let many : most_rows < length rows + length more =
    let long = c.if-len.true in let later_count = c.len.ensures in let count = c.len-in-Ok.ensures in omega arith in
    rows_joined clerks names firsts laters rows first c.requires ∙ rw read (many_later rows more many)

pub returns-in_ok-append-in-Ok : goal.returns-in_ok-append-in-Ok
returns-in_ok-append-in-Ok c = λ clerks names firsts laters first later.
    let read = rw c.in-Ok.is at later in
    let rows = c.args.rows.items in
    let more = c.in-Ok.later.items in
    let few : length rows + length more ≤ most_rows =
    let fits = c.if-len.false in let later_count = c.len.ensures in let count = c.len-in-Ok.ensures in omega arith in
    rows_joined clerks names firsts laters rows first c.requires ∙ rw (read, c.in_ok-append-in-Ok.ensures.items) (later_rows rows more few)

pub returns-in-Err : goal.returns-in-Err
returns-in-Err c = λ clerks names firsts laters first later.
    let read = rw c.in-Err.is at later in
    let rows = c.args.rows.items in
    let count : c.len-in-Err.result ≡ length rows = let is = c.len-in-Err.ensures in omega arith in
    rw (rows_joined clerks names firsts laters rows first c.requires)
    (later_error (λ (rows : Vec Row). rows.items) rows c.in-Err.error c.error_after.result c.len-in-Err.result (rows_read_from clerks names 1 laters) c.error_after.ensures count read)
