use Rattle.published_docket.proofs.OwedLemmas.{shown_again, whole_filled, whole_nothing}
use Rattle.published_docket.proofs.held.Held.warm.Goals as goal

pub returns-then-is_err-clause-shows : goal.returns-then-is_err-clause-shows
returns-then-is_err-clause-shows g c =
    whole_filled c.args.self c.fill.new.self c.args.owed.now.items c.args.trail.now c.requires c.fill.ensures.shown (c.fill.ensures.same (whole_nothing c.args.self c.args.owed.now.items c.args.trail.now c.requires))

pub show-held-requires : goal.show-held-requires
show-held-requires g c =
    whole_filled c.args.self c.fill.new.self c.args.owed.now.items c.args.trail.now c.requires c.fill.ensures.shown (c.fill.ensures.same (whole_nothing c.args.self c.args.owed.now.items c.args.trail.now c.requires))

pub show-requires : goal.show-requires
show-requires g c = shown_again c.show-held.result.1 c.show-held.result.0 c.show-held.new.owed.items c.args.trail.now c.show-held.ensures.shows
