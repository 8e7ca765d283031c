use Rattle.std.proofs.Common.{◌≡◌, ◌++◌, drop, string_bytes}
use Rattle.reason_texts.specs.Line.{reason_lines}
use Rattle.reason_texts.proofs.line.push_reasons.Given as goal

-- the lines so far, and those of the reasons that are left, are all the lines
abbrev pub invariant-loop-reason : goal.invariant-loop-reason
invariant-loop-reason l = string_bytes l.text ++ reason_lines l.clock l.names l.here (drop l.reason-index l.reasons) ≡ string_bytes l.fn.text ++ reason_lines l.clock l.names l.fn.course l.reasons
