use Rattle.std.proofs.Common.{◌≡◌, length, ap, ◌∙◌}
use Rattle.std.specs.Arc.{arc_value}
use Rattle.court_days.specs.Days.Table.{permitted_at}
use Rattle.court_days.proofs.DaysLemmas.TableLemmas.{entries_of_table}
use Rattle.court_days.proofs.DaysLemmas.MendLemmas.{mended_table}
use Rattle.court_days.proofs.days.table.and_holiday.Goals as goal

pub returns : goal.returns
returns c =
    let old = (arc_value c.args.table.now).items in
    let read : c.deref-4.result.now ≡ old = rw c.deref-3.ensures at c.deref-4.ensures.value in
    let made = c.in_ok-entries.ensures.mended (permitted_at c.args.holidays.now c.args.direction) (rw read (entries_of_table c.args.holidays.now c.args.direction old c.requires)) in
    rw c.in_ok-new.ensures.ok (mended_table c.args.holidays.now c.args.list c.args.direction c.args.day c.in-Some.place old c.in_ok-entries.entries.items c.requires c.in-Some.ensures.counts c.in-Some.ensures.place (c.in_ok-entries.ensures.length ∙ ap length read) made)
