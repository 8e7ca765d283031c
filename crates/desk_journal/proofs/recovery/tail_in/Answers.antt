use Rattle.std.proofs.Common.{sym, ◌∙◌, arith}
use Rattle.std.proofs.lemmas.Bool.{false≢true}
use Rattle.desk_journal.proofs.recovery.tail_in.Goals as goal
use Rattle.desk_journal.proofs.RecoverLemmas.{counted_tail, whole_file}

pub returns-then-counted-eq0-clause-whole : goal.returns-then-counted-eq0-clause-whole
returns-then-counted-eq0-clause-whole c =
    let counted = c.in_ok-counted.counted in
    whole_file c.args.bytes.now (omega (arith, c.if-bytes-le2.false)) counted.count counted.last counted.rest.now c.in_ok-counted.ensures.read c.in_ok-counted.ensures.shut
    (λ was. false≢true (sym c.if-ends_foreign.false ∙ c.ends_foreign.ensures.1 was))

pub returns-clause-tail : goal.returns-clause-tail
returns-clause-tail c =
    let counted = c.in_ok-counted.counted in
    counted_tail c.args.bytes.now (omega (arith, c.if-bytes-le2.false)) counted.count counted.last counted.rest.now c.in_ok-counted.ensures.read c.in_ok-counted.ensures.shut
    (omega (arith, c.if-counted-eq0.false)) c.split_at.result.1.now c.split_at.ensures.back

pub returns-clause-whole : goal.returns-clause-whole
returns-clause-whole c =
    let counted = c.in_ok-counted.counted in
    whole_file c.args.bytes.now (omega (arith, c.if-bytes-le2.false)) counted.count counted.last counted.rest.now c.in_ok-counted.ensures.read c.in_ok-counted.ensures.shut
    (λ was. false≢true (sym c.if-ends_foreign.false ∙ c.ends_foreign.ensures.1 was))
