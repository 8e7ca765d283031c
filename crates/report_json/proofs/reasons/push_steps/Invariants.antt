use Rattle.std.proofs.Common.{◌≡◌, ◌++◌, drop}
use Rattle.std.specs.List.{flat_map}
use Rattle.json.specs.Tree.{json_tokens}
use Rattle.report_json.specs.Reasons.{reason_values}
use Rattle.report_json.proofs.reasons.push_steps.Given as goal

-- the reasons so far, and those that are left, are all
abbrev pub invariant-loop-reason : goal.invariant-loop-reason
invariant-loop-reason l = l.out ++ flat_map json_tokens (reason_values l.court.clock l.here (drop l.reason-index l.reasons)) ≡ l.fn.out ++ flat_map json_tokens (reason_values l.court.clock l.fn.course l.reasons)
