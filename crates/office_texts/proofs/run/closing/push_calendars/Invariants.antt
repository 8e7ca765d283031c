use Rattle.std.proofs.Common.{◌≡◌, ◌+◌, ◌-◌, ◌≤◌, ◌++◌, string_bytes}
use Rattle.office_texts.specs.Run.Text.{calendars_from}
use Rattle.office_texts.proofs.run.closing.push_calendars.Given as goal

-- what was added, and what is left, are all of it
abbrev pub invariant-loop-judge : goal.invariant-loop-judge
invariant-loop-judge g l = record {
  within : l.judge ≤ l.fn.first + l.fn.count;
  so_far : string_bytes l.text ++ calendars_from l.court (g.D.Closing.parts l.docket) l.judge (l.fn.first + l.fn.count - l.judge) ≡ string_bytes l.fn.text ++ calendars_from l.court (g.D.Closing.parts l.docket) l.fn.first l.fn.count;
}
