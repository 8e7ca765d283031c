use Rattle.std.proofs.Common.{◌≡◌, ◌++◌, drop, string_bytes}
use Rattle.std.specs.List.{flat_map}
use Rattle.report_texts.specs.Names.{joined_name}
use Rattle.report_texts.proofs.judges.push_joined.Given as goal

-- the names so far, and those that are left, are all
abbrev pub invariant-loop-judge : goal.invariant-loop-judge
invariant-loop-judge l = string_bytes l.text ++ flat_map (joined_name l.court) (drop l.judge-index l.judges) ≡ string_bytes l.fn.text ++ flat_map (joined_name l.court) l.judges
