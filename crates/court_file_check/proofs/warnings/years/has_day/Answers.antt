use Rattle.std.proofs.Common.{◌∙◌, ◌||◌, ◌+ℤ◌, pos, ap, sym}
use Rattle.court_days.specs.Words.{is_among}
use Rattle.court_file_check.proofs.AnyLemmas.{day_more, no_days}
use Rattle.court_file_check.proofs.warnings.years.has_day.Goals as goal

pub loop-place-init : goal.loop-place-init
loop-place-init c = sym (no_days (is_among c.args.days.now.federal) c.args.first)

pub loop-place-preserved : goal.loop-place-preserved
loop-place-preserved c =
    c.is_listed_or-found.ensures
    ∙ ap (λ b. b || is_among c.args.days.now.federal (c.args.first +ℤ pos c.loop-place.place)) c.loop-place.invariant
    ∙ sym (day_more (is_among c.args.days.now.federal) c.args.first c.loop-place.place)
