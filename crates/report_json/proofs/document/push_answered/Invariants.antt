use Rattle.std.proofs.Common.{◌≡◌, ◌++◌, drop, take}
use Rattle.std.specs.List.{flat_map}
use Rattle.json.specs.Tree.{json_tokens}
use Rattle.docket_rows.specs.Words.{setup_of, opening_rows}
use Rattle.row_forms.specs.Words.{rows_of}
use Rattle.office_texts.specs.Run.Words.{Holds, docketed_after}
use Rattle.report_json.specs.Document.{answers_from}
use Rattle.report_json.proofs.document.push_answered.Given as goal

-- the docket holds what is docketed after the rows so far; what they were answered, and what the rows that are left are
-- answered, are all
abbrev pub invariant-loop-numbered : goal.invariant-loop-numbered
invariant-loop-numbered l =
    let setup = setup_of l.court in
    let docketed = docketed_after setup (opening_rows setup) (rows_of (take l.numbered-index l.rows)) in
    record {
      holds : Holds setup l.docket docketed;
      so_far : l.out ++ flat_map json_tokens (answers_from l.court l.labels docketed (drop l.numbered-index l.rows)) ≡ l.fn.out ++ flat_map json_tokens (answers_from l.court l.labels (opening_rows setup) l.rows);
    }
