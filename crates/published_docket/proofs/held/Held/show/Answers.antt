use Rattle.published_docket.proofs.OwedLemmas.{owed_now, shown_or_owed, shown_parts}
use Rattle.published_docket.proofs.held.Held.show.Goals as goal

pub publish-requires : goal.publish-requires
publish-requires g c =
    owed_now c.args.self c.queue.new.self c.args.owed.now.items c.args.trail.now c.requires c.queue.ensures.shown c.in-Ok.ensures.all

pub returns-clause-parts : goal.returns-clause-parts
returns-clause-parts g c =
    shown_parts c.publish.result.1 c.args.self c.queue.new.self c.publish.result.0 c.args.owed.now.items c.args.trail.now c.requires c.queue.ensures.shown c.in-Ok.ensures.all c.publish.ensures

pub returns-clause-shows : goal.returns-clause-shows
returns-clause-shows g c =
    shown_or_owed c.publish.result.1 c.args.self c.queue.new.self c.publish.result.0 c.args.owed.now.items c.queue.new.owed.items c.args.trail.now c.requires c.queue.ensures.shown c.queue.ensures.same c.in-Ok.ensures.all c.in-Ok.ensures.none c.publish.ensures
