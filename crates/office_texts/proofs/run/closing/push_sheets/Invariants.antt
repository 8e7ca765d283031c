use Rattle.std.proofs.Common.{◌≡◌, ◌+◌, ◌-◌, ◌≤◌, ◌++◌, string_bytes}
use Rattle.office_texts.specs.Run.Text.{sheets_from}
use Rattle.office_texts.proofs.run.closing.push_sheets.Given as goal

-- what was added, and what is left, are all of it
abbrev pub invariant-loop-case : goal.invariant-loop-case
invariant-loop-case g l = record {
  within : l.case ≤ l.fn.first + l.fn.count;
  so_far : string_bytes l.text ++ sheets_from l.court (g.D.Closing.parts l.docket) l.case (l.fn.first + l.fn.count - l.case) ≡ string_bytes l.fn.text ++ sheets_from l.court (g.D.Closing.parts l.docket) l.fn.first l.fn.count;
}
