use Rattle.std.proofs.Common.{◌≡◌, ◌++◌, drop, take}
use Rattle.docket_rows.specs.Words.{setup_of, opening_rows}
use Rattle.row_forms.specs.Words.{rows_of}
use Rattle.office_texts.specs.Run.Words.{Holds, docketed_after}
use Rattle.report_sql.specs.Answers.{answer_rows}
use Rattle.report_sql.proofs.answers.push_answers.Given as goal

-- the docket holds what is docketed after the rows so far; what they were answered, and what the rows that are left are
-- answered, are all
abbrev pub invariant-loop-numbered : goal.invariant-loop-numbered
invariant-loop-numbered l =
    let setup = setup_of l.court in
    let docketed = docketed_after setup (opening_rows setup) (rows_of (take l.numbered-index l.rows)) in
    record {
      holds : Holds setup l.docket docketed;
      so_far : l.out ++ answer_rows l.court l.labels docketed (drop l.numbered-index l.rows) ≡ l.fn.out ++ answer_rows l.court l.labels (opening_rows setup) l.rows;
    }
