use Rattle.std.proofs.Common.{ℕ, List, drop, string_bytes}
use Rattle.report_memo.specs.Sheets.{IsDeadline}
use Rattle.report_memo.specs.Texts.{Adds, Each}
use Rattle.report_memo.proofs.sheets.push_deadlines.Given as goal

-- whatever adds the deadlines that are left to the text so far adds all of them
abbrev pub invariant-loop-deadline : goal.invariant-loop-deadline
invariant-loop-deadline l =
    (new : List ℕ) → Adds (Each (IsDeadline l.court l.labels l.days l.sheet l.detail) (drop l.deadline-index l.deadlines)) (string_bytes l.text) new → Adds (Each (IsDeadline l.court l.labels l.days l.sheet l.detail) l.deadlines) (string_bytes l.fn.text) new
