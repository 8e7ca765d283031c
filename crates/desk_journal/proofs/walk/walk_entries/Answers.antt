use Rattle.std.proofs.Common.{◌++◌, [], ◌∷◌, length, ◌∙◌, ap, arith, length-append}
use Rattle.desk_journal.specs.Frames.{IsShut, first_checksum, frames}
use Rattle.desk_journal.proofs.walk.walk_entries.Goals as goal
use Rattle.desk_journal.proofs.WalkLemmas.{counted_on, damaged_here, first_number, stamped_more, stamped_none, too_many_here}

pub loop-alloc-init : goal.loop-alloc-init
loop-alloc-init c = record {
  read = stamped_none c.args.before.now.last c.args.before.now.last_size c.args.bytes.now c.new-entries.result.items c.new-stamps.result.items c.new-entries.ensures.items c.new-stamps.ensures.items;
  counted = omega (arith, ap length c.new-entries.ensures.items);
  few = λ few. few;
}

pub loop-alloc-preserved : goal.loop-alloc-preserved
loop-alloc-preserved c = record {
  read = stamped_more c.args.before.now.last c.args.before.now.last_size c.args.bytes.now c.loop-alloc.entries.items c.push.new.self.items c.loop-alloc.stamps.items c.push-in-Some.new.self.items
      c.in_ok-from_slice-in-Some.field-0 c.in_ok-stamp_in-in-Some.field-0 c.loop-alloc.last c.loop-alloc.last_size c.loop-alloc.rest.now
      c.in-Some.found.checksum c.in-Some.found.content.now c.in-Some.found.rest.now c.in-Some.found.durable
      c.loop-alloc.invariant.read c.in-Some.ensures.some c.in_ok-push-in-Some.ensures.items (c.in_ok-from_slice-in-Some.ensures.items ∙ c.entry_in.ensures) c.in_ok-push-in-Some-2.ensures.items c.in_ok-stamp_in-in-Some.ensures.stamp;
  counted = omega (arith, c.loop-alloc.invariant.counted, ap length c.in_ok-push-in-Some.ensures.items, length-append c.loop-alloc.entries.items (c.in_ok-from_slice-in-Some.field-0 ∷ []));
  few = λ few. omega (arith, c.if-count-ge-MOST.false);
}

pub returns-then-count-ge-MOST-clause-cause : goal.returns-then-count-ge-MOST-clause-cause
returns-then-count-ge-MOST-clause-cause c = λ fs ends begun.
    let read = c.loop-alloc.invariant.read.read in
    too_many_here (frames first_checksum fs ++ c.args.bytes.now) c.loop-alloc.count c.loop-alloc.last c.loop-alloc.rest.now
    (counted_on fs c.args.before.now ends c.args.bytes.now c.loop-alloc.entries.items c.loop-alloc.last c.loop-alloc.rest.now read c.loop-alloc.count c.loop-alloc.invariant.counted)
    (λ (shut : IsShut c.loop-alloc.rest.now). grind (arith, c.is_shut.ensures, c.loop-alloc-test))
    (omega (arith, c.if-count-ge-MOST.true, c.loop-alloc.invariant.few (omega (arith, ends.few, ends.count))))

pub returns-in-None-clause-cause : goal.returns-in-None-clause-cause
returns-in-None-clause-cause c = λ fs ends begun.
    let read = c.loop-alloc.invariant.read.read in
    c.fault_at.ensures.cause (frames first_checksum fs ++ c.args.bytes.now) (first_number fs c.args.before.now ends c.args.bytes.now c.loop-alloc.entries.items c.loop-alloc.count c.loop-alloc.invariant.counted)
    (damaged_here (frames first_checksum fs ++ c.args.bytes.now) c.loop-alloc.count c.loop-alloc.last c.loop-alloc.rest.now
    (counted_on fs c.args.before.now ends c.args.bytes.now c.loop-alloc.entries.items c.loop-alloc.last c.loop-alloc.rest.now read c.loop-alloc.count c.loop-alloc.invariant.counted)
    (λ (shut : IsShut c.loop-alloc.rest.now). grind (arith, c.is_shut.ensures, c.loop-alloc-test)) begun c.in-None.ensures.none)
