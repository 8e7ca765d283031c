use Rattle.std.proofs.Common.{◌≡◌, drop, map, nat_eq}
use Rattle.std.specs.List.{list_any, range_with_len, starts_with}
use Rattle.court_file_check.proofs.warnings.closings.has_text.Given as goal

-- whether one of the ends of the text so far begins with the bytes
abbrev pub invariant-loop-place : goal.invariant-loop-place
invariant-loop-place l = l.found ≡ list_any (λ rest. starts_with nat_eq rest l.part) (map (λ place. drop place l.text) (range_with_len 0 l.place))
