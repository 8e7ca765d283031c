use denote.Text.{Utf8}
use denote.Shadow.{shadow}
use Rattle.court_writing.proofs.short_names.short_of.Given as goal

abbrev pub invariant-loop-word : goal.invariant-loop-word
invariant-loop-word l = shadow (Utf8 l.last)
