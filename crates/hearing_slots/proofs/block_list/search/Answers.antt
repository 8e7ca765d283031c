use Rattle.std.proofs.Common.{◌≡◌, ◌<◌, ℤ, int_lt, length, get_or, of_z, w32, ◌∙◌, ap, subst, arith, rules}
use Rattle.std.proofs.lemmas.Int.{ints}
use Rattle.std.proofs.lemmas.List.Sorted.{IsPartitionPoint-from_clause}
use Rattle.hearing_slots.specs.Inside.Blocks.{BlockView, IsBlockAt, IsGapForBlock}
use Rattle.hearing_slots.proofs.Places.{searchable, found_at, absent_at_end, absent_at}
use Rattle.hearing_slots.proofs.block_list.search.Goals as goal

abbrev number_of : BlockView → ℤ
number_of b = b.number

pub returns-then-place-blocks-clause-absent : goal.returns-then-place-blocks-clause-absent
returns-then-place-blocks-clause-absent c =
    let blocks = c.args.blocks.now in
    let number = c.block_of-number.result in
    let place = c.partition_point-place.result in
    let ends = IsPartitionPoint-from_clause (λ (b : BlockView). int_lt b.number number) blocks place c.partition_point-place.ensures.partitioned (searchable number_of number blocks c.requires.rising) (λ a r q k. search rules) in
    subst (λ (n : ℤ). IsGapForBlock blocks n place) c.block_of-number.ensures (absent_at_end number_of blocks number place c.if-place-blocks.true ends)

pub returns-then-number-clause-absent : goal.returns-then-number-clause-absent
returns-then-number-clause-absent c =
    let blocks = c.args.blocks.now in
    let number = c.block_of-number.result in
    let place = c.partition_point-place.result in
    let within : place < length blocks = omega (arith, c.if-place-blocks.false, c.partition_point-place.ensures.bound) in
    let other : (get_or blocks place c.index-blocks-place.result).number ≡ number → ⊥ = λ h. c.if-number.true (ap (of_z w32) (c.number.ensures ∙ ap number_of c.index-blocks-place.is ∙ h)) in
    let ends = IsPartitionPoint-from_clause (λ (b : BlockView). int_lt b.number number) blocks place c.partition_point-place.ensures.partitioned (searchable number_of number blocks c.requires.rising) (λ a r q k. search rules) in
    subst (λ (n : ℤ). IsGapForBlock blocks n place) c.block_of-number.ensures (absent_at number_of blocks number place c.index-blocks-place.result c.requires.rising within ends other)

pub returns-clause-found : goal.returns-clause-found
returns-clause-found c =
    let blocks = c.args.blocks.now in
    let number = c.block_of-number.result in
    let place = c.partition_point-place.result in
    let within : place < length blocks = omega (arith, c.if-place-blocks.false, c.partition_point-place.ensures.bound) in
    let same : (get_or blocks place c.index-blocks-place.result).number ≡ number = omega (arith, ints, ap number_of c.index-blocks-place.is, c.number.ensures, c.if-number.false) in
    let ends = IsPartitionPoint-from_clause (λ (b : BlockView). int_lt b.number number) blocks place c.partition_point-place.ensures.partitioned (searchable number_of number blocks c.requires.rising) (λ a r q k. search rules) in
    subst (λ (n : ℤ). IsBlockAt blocks n place) c.block_of-number.ensures (found_at number_of blocks number place c.index-blocks-place.result c.requires.rising within ends same)
