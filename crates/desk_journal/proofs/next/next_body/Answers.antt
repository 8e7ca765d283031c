use Rattle.std.proofs.Common.{sym, ◌∙◌}
use Rattle.std.proofs.lemmas.Bool.{false≢true}
use Rattle.desk_journal.proofs.next.next_body.Goals as goal
use Rattle.desk_journal.proofs.NextLemmas.{next_of, no_stamp}

pub returns-then-has_stamp-clause-some : goal.returns-then-has_stamp-clause-some
returns-then-has_stamp-clause-some c =
    next_of c.args.previous.now c.args.behind.now c.in-Some.found.durable c.in-Some.found.checksum c.in-Some.found.content.now c.in-Some.found.rest.now c.in-Some.ensures.some (c.has_stamp.ensures.0 c.if-has_stamp.true)

pub returns-else-has_stamp-clause-none : goal.returns-else-has_stamp-clause-none
returns-else-has_stamp-clause-none c =
    no_stamp c.args.previous.now c.args.behind.now c.in-Some.found.durable c.in-Some.found.checksum c.in-Some.found.content.now c.in-Some.found.rest.now c.in-Some.ensures.some (λ has. false≢true (sym c.if-has_stamp.false ∙ c.has_stamp.ensures.1 has))
