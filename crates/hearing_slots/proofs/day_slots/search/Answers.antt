use Rattle.std.proofs.Common.{◌≡◌, ◌<◌, ℤ, int_lt, length, get_or, of_z, w32, ◌∙◌, ap, subst, arith, rules}
use Rattle.std.proofs.lemmas.Int.{ints}
use Rattle.std.proofs.lemmas.List.Sorted.{IsPartitionPoint-from_clause}
use Rattle.hearing_slots.specs.declared.day_slots.DaySlots.{DaySlots}
use Rattle.hearing_slots.specs.Slots.{IsDayAt, IsGapForDay}
use Rattle.hearing_slots.proofs.Places.{searchable, found_at, absent_at_end, absent_at}
use Rattle.hearing_slots.proofs.day_slots.search.Goals as goal

abbrev day_of : DaySlots → ℤ
day_of x = x.day

pub returns-then-place-days-clause-absent : goal.returns-then-place-days-clause-absent
returns-then-place-days-clause-absent c =
    let days = c.args.days.now in
    let day = c.number-number.result in
    let place = c.partition_point-place.result in
    let ends = IsPartitionPoint-from_clause (λ (x : DaySlots). int_lt x.day day) days place c.partition_point-place.ensures.partitioned (searchable day_of day days c.requires.rising) (λ a r q k. search rules) in
    subst (λ (d : ℤ). IsGapForDay days d place) c.number-number.ensures.value (absent_at_end day_of days day place c.if-place-days.true ends)

pub returns-then-number-clause-absent : goal.returns-then-number-clause-absent
returns-then-number-clause-absent c =
    let days = c.args.days.now in
    let day = c.number-number.result in
    let place = c.partition_point-place.result in
    let within : place < length days = omega (arith, c.if-place-days.false, c.partition_point-place.ensures.bound) in
    let other : (get_or days place c.index-days-place.result).day ≡ day → ⊥ = λ h. c.if-number.true (ap (of_z w32) (c.number.ensures.value ∙ h)) in
    let ends = IsPartitionPoint-from_clause (λ (x : DaySlots). int_lt x.day day) days place c.partition_point-place.ensures.partitioned (searchable day_of day days c.requires.rising) (λ a r q k. search rules) in
    subst (λ (d : ℤ). IsGapForDay days d place) c.number-number.ensures.value (absent_at day_of days day place c.index-days-place.result c.requires.rising within ends other)

pub returns-clause-found : goal.returns-clause-found
returns-clause-found c =
    let days = c.args.days.now in
    let day = c.number-number.result in
    let place = c.partition_point-place.result in
    let within : place < length days = omega (arith, c.if-place-days.false, c.partition_point-place.ensures.bound) in
    let same : (get_or days place c.index-days-place.result).day ≡ day = omega (arith, ints, c.number.ensures.value, c.if-number.false) in
    let ends = IsPartitionPoint-from_clause (λ (x : DaySlots). int_lt x.day day) days place c.partition_point-place.ensures.partitioned (searchable day_of day days c.requires.rising) (λ a r q k. search rules) in
    subst (λ (d : ℤ). IsDayAt days d place) c.number-number.ensures.value (found_at day_of days day place c.index-days-place.result c.requires.rising within ends same)
