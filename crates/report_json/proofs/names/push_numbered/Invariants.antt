use Rattle.std.proofs.Common.{◌≡◌, ◌-◌, ◌++◌}
use Rattle.std.specs.List.{flat_map}
use Rattle.json.specs.Tree.{json_tokens}
use Rattle.report_json.specs.Names.{names_from}
use Rattle.report_json.proofs.names.push_numbered.Given as goal

-- the names so far, and those that are left, are all
abbrev pub invariant-loop-judge : goal.invariant-loop-judge
invariant-loop-judge l = l.out ++ flat_map json_tokens (names_from l.court.judges l.judge (l.count - l.judge)) ≡ l.fn.out ++ flat_map json_tokens (names_from l.court.judges 0 l.count)
