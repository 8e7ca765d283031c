use Rattle.std.proofs.Common.{◌≡◌, drop}
use Rattle.desk_program.specs.ChangedText.{after_blank}
use Rattle.desk_program.proofs.changed_text.after_blank.Given as goal

-- no blank came so far
abbrev pub invariant-loop-place : goal.invariant-loop-place
invariant-loop-place l = after_blank (drop l.place l.text) ≡ after_blank l.text
