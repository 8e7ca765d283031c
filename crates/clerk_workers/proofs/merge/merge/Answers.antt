use Rattle.std.proofs.Common.{◌≡◌, ◌+◌, ◌-◌, ◌++◌, ◌∷◌, [], List, length, map, sym, subst, arith}
use Rattle.std.proofs.lemmas.List.{length-map}
use Rattle.clerk_workers.specs.declared.answer.SharedReply.{SharedReply}
use Rattle.clerk_workers.specs.Inside.Merged.{AreFromTheLast}
use Rattle.row_forms.specs.Words.{IsClerk}
use Rattle.clerk_workers.proofs.MergeLemmas.{from_more, next_answer, next_clerk}
use Rattle.clerk_workers.proofs.merge.merge.Goals as goal

pub take_last-requires-clause-some : goal.take_last-requires-clause-some
take_last-requires-clause-some c =
    let first = map (λ list. list.items) c.args.lists.now.items in
    let now = map (λ list. list.items) c.loop-row.lists.items in
    let row = c.in-Some.row.now in
    let rest = c.loop-row.rest.now in
    let before = c.in-Some.before.now in
    let last : rest ≡ before ++ row ∷ [] = c.in-Some.ensures.cases.0 in
    let way = c.loop-row.invariant.so_far in
    let clerk : IsClerk (length c.args.lists.now.items) row.clerk = next_clerk c.args.rows.now rest before row first now c.loop-row.answers.items last way (length c.args.lists.now.items) c.requires.clerks in
    next_answer c.args.rows.now rest before row first now c.loop-row.answers.items last way (row.clerk - 1) (omega (arith, clerk.from_one, clerk.to_last, length-map c.args.lists.now.items (λ list. list.items))) (omega (arith, clerk.from_one))

pub loop-row-preserved : goal.loop-row-preserved
loop-row-preserved c =
    let first = map (λ list. list.items) c.args.lists.now.items in
    let now = map (λ list. list.items) c.loop-row.lists.items in
    let new = map (λ list. list.items) c.take_last.new.lists.items in
    let row = c.in-Some.row.now in
    let rest = c.loop-row.rest.now in
    let before = c.in-Some.before.now in
    let last : rest ≡ before ++ row ∷ [] = c.in-Some.ensures.cases.0 in
    let shorter : length before + 1 ≡ length rest = c.in-Some.ensures.cases.1 in
    let way = c.loop-row.invariant.so_far in
    let clerk : IsClerk (length c.args.lists.now.items) row.clerk = next_clerk c.args.rows.now rest before row first now c.loop-row.answers.items last way (length c.args.lists.now.items) c.requires.clerks in
    let P : List SharedReply → Type 0 = λ taken. AreFromTheLast c.args.rows.now before first new taken in
    record {
      so_far = subst P (sym c.push_reserved.ensures.items) (from_more c.args.rows.now rest before row first now c.loop-row.answers.items last way (row.clerk - 1) (omega (arith, clerk.from_one)) new c.take_last.result c.take_last.ensures);
      room = omega (arith, c.loop-row.invariant.room, shorter, c.push_reserved.ensures.len, c.push_reserved.ensures.capacity, c.loop-row.answers.ok);
    }
