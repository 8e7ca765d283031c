use Rattle.std.proofs.Common.{sym, ◌∙◌}
use Rattle.court_days.proofs.DaysLemmas.EntryLemmas.{rolled_uncovered, rolled_is_number}
use Rattle.court_days.proofs.days.Days.roll.Goals as goal

pub returns-then-not-covered-clause-value : goal.returns-then-not-covered-clause-value
returns-then-not-covered-clause-value c = sym (rolled_uncovered c.args.self.now c.args.day c.args.direction (sym c.covered.ensures.value ∙ c.if-not-covered.true))

pub entry_day-requires : goal.entry_day-requires
entry_day-requires c = rw c.in_ok-entry.ensures.some (rolled_is_number c.args.self.now c.args.day c.args.direction c.covered.ensures.span)
