use Rattle.std.proofs.Common.{◌≡◌, ◌++◌, drop, take}
use Rattle.docket_rows.specs.Words.{opening_rows, setup_of}
use Rattle.row_forms.specs.Words.{rows_of}
use Rattle.office_texts.specs.Run.Words.{Holds, docketed_after}
use Rattle.report_program.specs.Changes.{changes_made, lost_made}
use Rattle.report_program.proofs.docket.carry_out.Given as goal

-- the docket holds what is docketed after the rows so far; what came of these, and what comes of the others after it, is all
abbrev pub invariant-loop-numbered : goal.invariant-loop-numbered
invariant-loop-numbered l =
    let setup = setup_of l.court in
    let docketed = docketed_after setup (opening_rows setup) (rows_of (take l.numbered-index l.rows)) in
    let left = drop l.numbered-index l.rows in
    record {
      holds : Holds setup l.docket docketed;
      changes : l.came.changes.items ++ changes_made setup docketed left ≡ l.fn.came.changes.items ++ changes_made setup (opening_rows setup) l.rows;
      lost : l.came.lost.items ++ lost_made l.given setup docketed left ≡ l.fn.came.lost.items ++ lost_made l.given setup (opening_rows setup) l.rows;
    }
