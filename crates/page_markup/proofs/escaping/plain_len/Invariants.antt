use Rattle.std.proofs.Common.{◌≡◌, take}
use Rattle.std.specs.List.{flat_map}
use Rattle.page_markup.specs.Escaping.{escaped_byte}
use Rattle.page_markup.proofs.escaping.plain_len.Given as goal

-- the bytes so far have no meaning
abbrev pub invariant-loop-place : goal.invariant-loop-place
invariant-loop-place l = flat_map escaped_byte (take l.place l.text) ≡ take l.place l.text
