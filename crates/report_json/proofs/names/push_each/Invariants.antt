use Rattle.std.proofs.Common.{◌≡◌, ◌++◌, drop}
use Rattle.std.specs.List.{flat_map}
use Rattle.json.specs.Tree.{json_tokens}
use Rattle.report_json.specs.Names.{name_value}
use Rattle.report_json.proofs.names.push_each.Given as goal

-- the names so far, and those that are left, are all
abbrev pub invariant-loop-judge : goal.invariant-loop-judge
invariant-loop-judge l = l.out ++ flat_map (λ j. json_tokens (name_value l.court.judges j)) (drop l.judge-index l.judges) ≡ l.fn.out ++ flat_map (λ j. json_tokens (name_value l.court.judges j)) l.judges
