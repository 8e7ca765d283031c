use Rattle.std.proofs.Common.{◌∙◌, ◌||◌, ap, drop, nat_eq, sym}
use Rattle.std.specs.List.{starts_with}
use Rattle.court_file_check.proofs.AnyLemmas.{end_more}
use Rattle.court_file_check.proofs.warnings.closings.has_text.Goals as goal

pub loop-place-preserved : goal.loop-place-preserved
loop-place-preserved c =
    c.is_there_or-found.ensures
    ∙ ap (λ b. b || starts_with nat_eq (drop c.loop-place.place c.args.text.now) c.args.part.now) c.loop-place.invariant
    ∙ sym (end_more (λ rest. starts_with nat_eq rest c.args.part.now) c.args.text.now c.loop-place.place)
