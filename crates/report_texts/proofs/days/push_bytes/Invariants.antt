use Rattle.std.proofs.Common.{◌≡◌, ◌++◌, drop, string_bytes}
use Rattle.std.specs.List.{flat_map}
use Rattle.std.specs.Prelude.{encode_utf8}
use Rattle.report_texts.proofs.days.push_bytes.Given as goal

-- the characters so far, and those that are left, are all
abbrev pub invariant-loop-byte : goal.invariant-loop-byte
invariant-loop-byte l = string_bytes l.text ++ flat_map (encode_utf8) (drop l.byte-index l.bytes) ≡ string_bytes l.fn.text ++ flat_map (encode_utf8) l.bytes
