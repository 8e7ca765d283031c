use Rattle.std.proofs.Common.{◌≡◌, ◌++◌, drop, take}
use Rattle.docket_rows.specs.Words.{opening_rows, setup_of}
use Rattle.row_forms.specs.Words.{rows_of}
use Rattle.office_texts.specs.Run.Words.{Holds, docketed_after}
use Rattle.report_memo.specs.Sources.{sources_made}
use Rattle.report_memo.proofs.sources.carry_out.Given as goal

-- the docket holds what is docketed after the rows so far; what these did, and what the others do, is all
abbrev pub invariant-loop-row : goal.invariant-loop-row
invariant-loop-row l =
    let setup = setup_of l.court in
    let docketed = docketed_after setup (opening_rows setup) (rows_of (take l.row-index l.rows)) in
    record {
      holds : Holds setup l.docket docketed;
      so_far : l.sources.items ++ sources_made setup l.case docketed (drop l.row-index l.rows) ≡ l.fn.sources.items ++ sources_made setup l.case (opening_rows setup) l.rows;
    }
