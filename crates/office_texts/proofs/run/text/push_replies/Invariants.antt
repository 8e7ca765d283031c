use Rattle.std.proofs.Common.{◌≡◌, ◌+◌, ◌++◌, drop, take, string_bytes}
use Rattle.docket_rows.specs.Words.{setup_of, opening_rows}
use Rattle.office_texts.specs.Run.Replies.{Holds, docketed_after}
use Rattle.office_texts.specs.Run.Text.{lines_from}
use Rattle.office_texts.proofs.run.text.push_replies.Given as goal

-- the docket holds what is docketed after the rows so far; the replies to them, and those to the rows that are left, are all
abbrev pub invariant-loop-row : goal.invariant-loop-row
invariant-loop-row l =
    let setup = setup_of l.court in
    let docketed = docketed_after setup (opening_rows setup) (take l.row-index l.rows) in
    record {
      number : l.number ≡ l.row-index + 1;
      holds : Holds setup l.docket docketed;
      so_far : string_bytes l.text ++ lines_from l.court docketed l.number (drop l.row-index l.rows) ≡ string_bytes l.fn.text ++ lines_from l.court (opening_rows setup) 1 l.rows;
    }
