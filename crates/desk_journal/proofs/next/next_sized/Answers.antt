use Rattle.std.proofs.Common.{sym, ◌∙◌, arith}
use Rattle.desk_journal.proofs.next.next_sized.Goals as goal
use Rattle.desk_journal.proofs.NextLemmas.{too_few, cut_off, other_sum, found, found_shorter, same_bytes, other_bytes}

pub returns-then-behind-lt40-clause-none : goal.returns-then-behind-lt40-clause-none
returns-then-behind-lt40-clause-none c = too_few c.args.previous.now c.args.behind.now c.if-behind-lt40.true

pub returns-then-after_sum-long-clause-none : goal.returns-then-after_sum-long-clause-none
returns-then-after_sum-long-clause-none c =
    cut_off c.args.previous.now c.args.behind.now c.split_at.result.0.now c.split_at.result.1.now c.split_at-2.result.0.now c.split_at-2.result.1.now c.split_at-3.result.0.now c.split_at-3.result.1.now c.number_in-long.result
    c.split_at.ensures.front c.split_at.ensures.back c.split_at-2.ensures.front c.split_at-2.ensures.back c.split_at-3.ensures.front c.split_at-3.ensures.back c.number_in-long.ensures c.if-after_sum-long.true

pub returns-then-ne-clause-none : goal.returns-then-ne-clause-none
returns-then-ne-clause-none c =
    other_sum c.args.previous.now c.args.behind.now c.split_at.result.0.now c.split_at.result.1.now c.split_at-2.result.0.now c.split_at-2.result.1.now c.split_at-3.result.0.now c.split_at-3.result.1.now c.number_in-long.result
    c.split_at.ensures.front c.split_at.ensures.back c.split_at-2.ensures.front c.split_at-2.ensures.back c.split_at-3.ensures.front c.split_at-3.ensures.back c.number_in-long.ensures
    c.split_at-4.result.0.now c.split_at-4.result.1.now c.checksum_of-checksum.result c.split_at-4.ensures.front c.checksum_of-checksum.ensures
    (λ same. other_bytes c.as_slice.result.now c.split_at-3.result.0.now c.ne.result c.ne.ensures c.if-ne.true (c.as_slice.ensures ∙ same))

pub returns-clause-some : goal.returns-clause-some
returns-clause-some c =
    found c.args.previous.now c.args.behind.now c.split_at.result.0.now c.split_at.result.1.now c.split_at-2.result.0.now c.split_at-2.result.1.now c.split_at-3.result.0.now c.split_at-3.result.1.now c.number_in-long.result
    c.split_at.ensures.front c.split_at.ensures.back c.split_at-2.ensures.front c.split_at-2.ensures.back c.split_at-3.ensures.front c.split_at-3.ensures.back c.number_in-long.ensures
    c.split_at-4.result.0.now c.split_at-4.result.1.now c.checksum_of-checksum.result c.split_at-4.ensures.front c.checksum_of-checksum.ensures
    c.number_in.result (omega arith) (omega arith) c.split_at-4.ensures.back
    (sym c.as_slice.ensures ∙ same_bytes c.as_slice.result.now c.split_at-3.result.0.now c.ne.result c.ne.ensures c.if-ne.false) c.number_in.ensures

pub returns-clause-shorter : goal.returns-clause-shorter
returns-clause-shorter c =
    found_shorter c.args.previous.now c.args.behind.now c.split_at.result.0.now c.split_at.result.1.now c.split_at-2.result.0.now c.split_at-2.result.1.now c.split_at-3.result.0.now c.split_at-3.result.1.now c.number_in-long.result
    c.split_at.ensures.front c.split_at.ensures.back c.split_at-2.ensures.front c.split_at-2.ensures.back c.split_at-3.ensures.front c.split_at-3.ensures.back c.number_in-long.ensures
    c.split_at-4.result.0.now c.split_at-4.result.1.now c.checksum_of-checksum.result c.split_at-4.ensures.front c.checksum_of-checksum.ensures
    (omega arith) c.split_at-4.ensures.back
