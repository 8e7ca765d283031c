use Rattle.std.proofs.Common.{◌≡◌, ◌++◌, drop, string_bytes}
use Rattle.std.specs.List.{flat_map}
use Rattle.report_memo.specs.Sources.{source_line}
use Rattle.report_memo.proofs.sources.push_sources.Given as goal

-- the lines so far, and those of the rows that are left, are all the lines
abbrev pub invariant-loop-source : goal.invariant-loop-source
invariant-loop-source l = string_bytes l.text ++ flat_map (source_line l.deadline) (drop l.source-index l.sources) ≡ string_bytes l.fn.text ++ flat_map (source_line l.deadline) l.sources
