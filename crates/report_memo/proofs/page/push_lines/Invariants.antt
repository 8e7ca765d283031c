use Rattle.std.proofs.Common.{◌≡◌, ◌++◌, drop, map}
use Rattle.std.specs.List.{flat_map}
use Rattle.report_memo.specs.Page.{line_shown}
use Rattle.report_memo.proofs.page.push_lines.Given as goal

-- the lines so far, and those that are left, are all
abbrev pub invariant-loop-line : goal.invariant-loop-line
invariant-loop-line l = l.page ++ flat_map line_shown (map (λ t. t.now) (drop l.line-index l.texts)) ≡ l.fn.page ++ flat_map line_shown (map (λ t. t.now) l.texts)
