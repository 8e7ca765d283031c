use Rattle.std.proofs.Common.{◌≡◌, refl, arith}
use Rattle.std.proofs.lemmas.Bool.{false≢true}
use Rattle.desk_journal.proofs.walk.says_other.Goals as goal
use Rattle.desk_journal.proofs.WalkLemmas.{other_found, walked_more, walked_none, none_latched, none_behind}

pub loop-found-init : goal.loop-found-init
loop-found-init c = walked_none c.args.durable c.args.previous.now c.args.start.now

pub returns-then-found-durable : goal.returns-then-found-durable
returns-then-found-durable c = (
  λ yes_is. other_found c.args.durable c.args.previous.now c.args.start.now c.loop-found.last c.loop-found.behind.now c.loop-found.invariant
      c.in-Some.found.durable c.in-Some.found.checksum c.in-Some.found.content.now c.in-Some.found.rest.now c.in-Some.ensures.some (λ (same : c.in-Some.found.durable ≡ c.args.durable). omega arith),
  λ says. refl,
)

pub returns-in-None : goal.returns-in-None
returns-in-None c = (
  λ never. absurd (false≢true never),
  λ says. absurd (none_latched c.args.durable c.args.previous.now c.args.start.now c.loop-found.last c.loop-found.behind.now c.loop-found.invariant
      c.in-Some.found.durable c.in-Some.found.checksum c.in-Some.found.content.now c.in-Some.found.rest.now c.in-Some.ensures.some (omega arith) c.in-None.ensures says),
)

pub loop-found-preserved : goal.loop-found-preserved
loop-found-preserved c =
    walked_more c.args.durable c.args.previous.now c.args.start.now c.loop-found.last c.loop-found.behind.now c.loop-found.invariant
    c.in-Some.found.durable c.in-Some.found.checksum c.in-Some.found.content.now c.in-Some.found.rest.now c.in-Some.ensures.some (omega arith) c.in-Some-behind_latch.next.now c.in-Some-behind_latch.ensures

pub returns : goal.returns
returns c = (
  λ never. absurd (false≢true never),
  λ says. absurd (none_behind c.args.durable c.args.previous.now c.args.start.now c.loop-found.last c.loop-found.behind.now c.loop-found.invariant c.in_default.ensures.none says),
)
