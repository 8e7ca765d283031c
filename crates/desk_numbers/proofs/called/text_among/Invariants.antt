use Rattle.std.proofs.Common.{◌≡◌, [], fold, take}
use denote.Text.{Utf8}
use denote.Shadow.{shadow}
use Rattle.desk_numbers.specs.Called.{text_then}
use Rattle.desk_numbers.proofs.called.text_among.Given as goal

-- what it is called by those so far
abbrev pub invariant-loop-called : goal.invariant-loop-called
invariant-loop-called l = shadow (Utf8 l.text) × (l.text ≡ fold (text_then l.subject) [] (take l.called-index l.list))
