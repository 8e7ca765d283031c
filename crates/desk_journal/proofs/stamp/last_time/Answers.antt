use Rattle.std.proofs.Common.{[], ◌∷◌, sym, ◌∙◌, ap}
use Rattle.desk_journal.specs.Stamps.{time_after}
use Rattle.desk_journal.proofs.StampLemmas.{time_after-append}
use Rattle.desk_journal.proofs.stamp.last_time.Goals as goal

pub returns-in-Some : goal.returns-in-Some
returns-in-Some c =
    c.time.ensures ∙ sym (ap (time_after c.args.earlier) c.in-Some.ensures.cases.0 ∙ time_after-append c.args.earlier c.in-Some.field-0-1.now (c.in-Some.stamp.now ∷ []))
