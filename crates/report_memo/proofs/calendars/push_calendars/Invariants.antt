use Rattle.std.proofs.Common.{◌+◌, ◌-◌, ◌≤◌, ℕ, List, string_bytes}
use Rattle.docket_rows.specs.Words.{Rows, setup_of}
use Rattle.office_texts.specs.Run.Words.{Holds}
use Rattle.report_memo.specs.Memo.{AreCalendars}
use Rattle.report_memo.specs.Texts.{Adds}
use Rattle.report_memo.proofs.calendars.push_calendars.Given as goal

-- whatever adds the calendars that are left to the text so far adds all of them
abbrev pub invariant-loop-judge : goal.invariant-loop-judge
invariant-loop-judge l = record {
  within : l.judge ≤ l.fn.first + l.fn.count;
  leads : (docketed : Rows)
      (new : List ℕ)
      → Holds (setup_of l.court) l.docket docketed
      → Adds (AreCalendars l.court l.labels docketed l.judge (l.fn.first + l.fn.count - l.judge)) (string_bytes l.text) new
      → Adds (AreCalendars l.court l.labels docketed l.fn.first l.fn.count) (string_bytes l.fn.text) new;
}
