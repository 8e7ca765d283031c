use Rattle.std.proofs.Common.{◌≡◌, get_or, ap, arith}
use Rattle.std.proofs.lemmas.List.{get_or_read}
use Rattle.std.specs.Arc.{arc_value}
use Rattle.court_days.specs.Days.Table.{IsTable}
use Rattle.court_days.proofs.DaysLemmas.EntryLemmas.{entry_in_table}
use Rattle.court_days.proofs.days.Days.entry.Goals as goal

pub returns-in-After-clause-some : goal.returns-in-After-clause-some
returns-in-After-clause-some c =
    let held = arc_value c.self.inside.held in
    let entries = (arc_value held.after).items in
    let table : IsTable held.holidays c.args.direction entries = rw c.in-After.is c.self.invariant.after in
    let items : c.deref-in-After-2.result.now.items ≡ entries = ap (λ v. v.items) (rw c.deref-in-After.ensures at c.deref-in-After-2.ensures) in
    let found : c.index.result.now ≡ get_or entries c.in_ok-place.place 0 = get_or_read entries c.in_ok-place.place c.index.result.now (omega (arith, rw c.deref.ensures at c.in_ok-place.ensures.within, table.whole)) (rw items at c.index.ensures) 0 in
    rw (← c.self.view_is, found) (entry_in_table held.holidays (arc_value held.outages) c.args.direction c.args.day c.in_ok-place.place entries table (rw c.deref.ensures at c.in_ok-place.ensures.within) (rw c.deref.ensures at c.in_ok-place.ensures.some))

pub returns-in-Before-clause-some : goal.returns-in-Before-clause-some
returns-in-Before-clause-some c =
    let held = arc_value c.self.inside.held in
    let entries = (arc_value held.before).items in
    let table : IsTable held.holidays c.args.direction entries = rw c.in-Before.is c.self.invariant.before in
    let items : c.deref-in-Before-2.result.now.items ≡ entries = ap (λ v. v.items) (rw c.deref-in-Before.ensures at c.deref-in-Before-2.ensures) in
    let found : c.index-in-Before.result.now ≡ get_or entries c.in_ok-place.place 0 = get_or_read entries c.in_ok-place.place c.index-in-Before.result.now (omega (arith, rw c.deref.ensures at c.in_ok-place.ensures.within, table.whole)) (rw items at c.index-in-Before.ensures) 0 in
    rw (← c.self.view_is, found) (entry_in_table held.holidays (arc_value held.outages) c.args.direction c.args.day c.in_ok-place.place entries table (rw c.deref.ensures at c.in_ok-place.ensures.within) (rw c.deref.ensures at c.in_ok-place.ensures.some))
