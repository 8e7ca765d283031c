use Rattle.std.specs.Global.{Vec}
use Rattle.std.proofs.lemmas.Result.{err_from_is_err_and}
use Rattle.row_forms.specs.declared.row.Row.{Row}
use Rattle.program_runs.proofs.ParallelLemmas.PartLemmas.{error_of_first, rows_of_both}
use Rattle.program_runs.proofs.parallel.reading.+parts.Goals as goal

pub returns-in_err-firsts : goal.returns-in_err-firsts
returns-in_err-firsts g t c =
    let p = err_from_is_err_and c.from_residual.result c.from_residual.ensures.1 in
    let first = rw c.in_err-firsts.was at c.join-laters.ensures.second in
    rw (p.1, p.2) (error_of_first (λ (rows : Vec Row). rows.items) (g.P.RowReader.clerks c.args.reader.now) (g.P.RowReader.names c.args.reader.now) c.args.text.now c.divide_after.result.0.now c.divide_after.result.1.now c.in_err-firsts.field-0.0 c.divide_after.ensures c.requires first)

pub returns : goal.returns
returns g t c =
    let first = rw c.in_ok-firsts.was at c.join-laters.ensures.second in
    rows_of_both (λ (rows : Vec Row). rows.items) (g.P.RowReader.clerks c.args.reader.now) (g.P.RowReader.names c.args.reader.now) c.args.text.now c.divide_after.result.0.now c.divide_after.result.1.now c.in_ok-firsts.field-0 c.join-laters.result.0 c.join_rows.result c.divide_after.ensures c.requires first c.join-laters.ensures.first c.join_rows.ensures
