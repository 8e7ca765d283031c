use Rattle.std.proofs.Common.{◌≡◌, ◌++◌, All, drop, take}
use Rattle.std.specs.List.{flat_map}
use Rattle.docket_rows.specs.Words.{setup_of, opening_rows}
use Rattle.row_forms.specs.Words.{rows_of}
use Rattle.office_texts.specs.Run.Words.{Holds, docketed_after}
use Rattle.report_json.specs.Document.{answers_from}
use Rattle.report_json.specs.Lines.{ReadsBack, answers_of, line_of}
use Rattle.report_json.proofs.lines.push_lines.Given as goal

-- the docket holds what is docketed after the rows so far; their lines, with those of the rows that are left, are all; and if
-- those that are left read back, all do
abbrev pub invariant-loop-numbered : goal.invariant-loop-numbered
invariant-loop-numbered l =
    let setup = setup_of l.court in
    let docketed = docketed_after setup (opening_rows setup) (rows_of (take l.numbered-index l.rows)) in
    let left = answers_from l.court l.labels docketed (drop l.numbered-index l.rows) in
    record {
      holds : Holds setup l.docket docketed;
      so_far : l.text.items ++ flat_map line_of left ≡ l.fn.text.items ++ flat_map line_of (answers_of l.court l.labels l.rows);
      read : All ReadsBack left → All ReadsBack (answers_of l.court l.labels l.rows);
    }
