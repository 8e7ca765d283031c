use Rattle.std.proofs.Common.{◌+◌, ◌-◌, ◌≤◌, ℕ, List, string_bytes}
use Rattle.docket_rows.specs.Words.{Rows, setup_of}
use Rattle.office_texts.specs.Run.Words.{Holds}
use Rattle.report_memo.specs.Memo.{AreSheets}
use Rattle.report_memo.specs.Texts.{Adds}
use Rattle.report_memo.proofs.sheets.push_sheets.Given as goal

-- whatever adds the sheets that are left to the text so far adds all of them
abbrev pub invariant-loop-case : goal.invariant-loop-case
invariant-loop-case l = record {
  within : l.case ≤ l.fn.first + l.fn.count;
  leads : (docketed : Rows)
      (new : List ℕ)
      → Holds (setup_of l.court) l.docket docketed
      → Adds (AreSheets l.court l.labels docketed l.case (l.fn.first + l.fn.count - l.case)) (string_bytes l.text) new
      → Adds (AreSheets l.court l.labels docketed l.fn.first l.fn.count) (string_bytes l.fn.text) new;
}
