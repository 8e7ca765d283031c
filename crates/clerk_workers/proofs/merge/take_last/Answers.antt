use Rattle.std.proofs.Common.{◌≡◌, ◌-◌, ◌<◌, ℕ, length, map, ap, sym, subst, arith, set}
use Rattle.clerk_workers.specs.Inside.Merged.{IsTaken}
use Rattle.clerk_workers.proofs.MergeLemmas.{taken}
use Rattle.clerk_workers.proofs.merge.take_last.Goals as goal

pub returns : goal.returns
returns c =
    let lists = c.args.lists.now.items in
    let place = c.args.clerk - 1 in
    let at : c.from-place.result - 1 ≡ place = ap (λ n. n - 1) c.from-place.ensures in
    let short : place < length lists = omega (arith, c.requires.from_one, c.requires.to_last) in
    let read = rw at at c.index_mut.ensures.value in
    let P : ℕ → Type 0 = λ n. IsTaken (map (λ list. list.items) lists) (map (λ list. list.items) (set lists n c.pop.new.self)) place c.in-Some.answer in
    subst P (sym at) (taken (λ list. list.items) lists place c.index_mut.result.now c.pop.new.self c.in-Some.answer short read c.in-Some.ensures.items)
