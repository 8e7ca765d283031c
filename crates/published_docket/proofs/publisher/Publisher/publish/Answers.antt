use Rattle.published_docket.specs.declared.known.Known.{Known}
use Rattle.published_docket.specs.Inside.Held.{AllShown}
use Rattle.published_docket.proofs.PublishingLemmas.{publishing, publishing_shows, publishing_keeps}
use Rattle.published_docket.proofs.publisher.Publisher.publish.Goals as goal

pub show-held-requires : goal.show-held-requires
show-held-requires g c =
    let k : Known = record { parts = c.self.inside.parts; trail = c.self.inside.trail } in
    let held = c.catch_up-held.result.0 in
    let all : AllShown held c.catch_up-held.new.owed.items k.trail = rw c.if-not-all.false at c.catch_up-held.ensures.shows in
    publishing_shows k held c.args.entry.now c.args.writes.items c.add.new.self
    (publishing k c.args.self.now c.self.invariant c.self.view_is c.in-Some.held held c.catch_up-held.new.owed.items c.args.entry.now c.args.writes.items c.again-trail.result c.add.new.self
    c.in-Some.ensures.value c.catch_up-held.ensures.parts all c.requires.follows c.requires.writes c.again-trail.ensures c.if-not-add.ensures)

pub invariant_of-self-2 : goal.invariant_of-self-2
invariant_of-self-2 g c =
    let k : Known = record { parts = c.self.inside.parts; trail = c.self.inside.trail } in
    let held = c.catch_up-held.result.0 in
    let all : AllShown held c.catch_up-held.new.owed.items k.trail = rw c.if-not-all.false at c.catch_up-held.ensures.shows in
    publishing_keeps k held c.args.entry.now c.args.writes.items c.add.new.self
    (publishing k c.args.self.now c.self.invariant c.self.view_is c.in-Some.held held c.catch_up-held.new.owed.items c.args.entry.now c.args.writes.items c.again-trail.result c.add.new.self
    c.in-Some.ensures.value c.catch_up-held.ensures.parts all c.requires.follows c.requires.writes c.again-trail.ensures c.if-not-add.ensures)
    c.show-held.result.0 c.show-held.new.owed.items c.show-held.result.1 c.self.inside.head c.self.invariant.head_is c.self.invariant.legal c.show-held.ensures.parts c.show-held.ensures.shows
