use Rattle.std.proofs.Common.{◌≡◌, ℕ, List, drop, take, string_bytes}
use Rattle.docket_rows.specs.Words.{setup_of, opening_rows}
use Rattle.row_forms.specs.Words.{rows_of}
use Rattle.office_texts.specs.Run.Words.{Holds, docketed_after}
use Rattle.report_memo.specs.Reasons.{days_docketed}
use Rattle.report_memo.specs.Replies.{AreReplies}
use Rattle.report_memo.specs.Texts.{Adds}
use Rattle.report_memo.proofs.replies.push_replies.Given as goal

-- the docket holds what is docketed after the rows so far, and so are the days; whatever adds the replies to those that are left adds all
abbrev pub invariant-loop-row : goal.invariant-loop-row
invariant-loop-row l =
    let setup = setup_of l.court in
    let docketed = docketed_after setup (opening_rows setup) (rows_of (take l.row-index l.rows)) in
    record {
      holds : Holds setup l.docket docketed;
      read : l.days ≡ days_docketed l.labels docketed;
      leads : (new : List ℕ)
          → Adds (AreReplies l.court l.labels docketed (drop l.row-index l.rows)) (string_bytes l.text) new
          → Adds (AreReplies l.court l.labels (opening_rows setup) l.rows) (string_bytes l.fn.text) new;
    }
