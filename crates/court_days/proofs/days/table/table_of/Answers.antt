use Rattle.std.proofs.Common.{◌≡◌, length, refl, sym, ◌∙◌, arith}
use Rattle.std.proofs.lemmas.List.{length_push}
use Rattle.court_days.specs.Days.Table.{permitted_at, next_entry, last_entry}
use Rattle.court_days.proofs.DaysLemmas.TableLemmas.{last_entry-zero, last_entry-next, entries_pushed, table_of_entries}
use Rattle.court_days.proofs.days.table.table_of.Goals as goal

pub loop-place-init : goal.loop-place-init
loop-place-init c =
    let none : length c.in_ok-entries.entries.items ≡ 0 = rw c.in_ok-entries.ensures.items refl in
    record {
      whole = none;
      last = sym (last_entry-zero (permitted_at c.args.holidays.now c.args.direction));
      made = λ k h. absurd (omega (arith, none, h));
    }

pub loop-place-preserved : goal.loop-place-preserved
loop-place-preserved c =
    let i = c.loop-place.invariant in
    let next : c.next_entry-last.result ≡ next_entry (permitted_at c.args.holidays.now c.args.direction c.loop-place.place) (last_entry (permitted_at c.args.holidays.now c.args.direction) c.loop-place.place) = rw (← i.last, ← c.permitted_at.ensures) c.next_entry-last.ensures in
    record {
      whole = rw c.in_ok-push.ensures.items (omega (arith, i.whole, length_push c.loop-place.entries.items c.next_entry-last.result));
      last = next ∙ sym (last_entry-next (permitted_at c.args.holidays.now c.args.direction) c.loop-place.place);
      made = rw c.in_ok-push.ensures.items (entries_pushed (permitted_at c.args.holidays.now c.args.direction) c.loop-place.entries.items c.loop-place.place c.next_entry-last.result i.made i.whole next);
    }

pub returns : goal.returns
returns c =
    let i = c.loop-place.invariant in
    let whole : length c.loop-place.entries.items ≡ c.count-count.result = omega (arith, i.whole, c.loop-place-test.false, c.loop-place.auto.place-end) in
    table_of_entries c.args.holidays.now c.args.direction c.loop-place.entries.items (whole ∙ c.count-count.ensures) (omega (arith, whole, c.count-count.ensures, c.requires)) i.made
