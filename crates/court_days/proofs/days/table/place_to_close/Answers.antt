use Rattle.std.proofs.Common.{sym, ◌∙◌, arith}
use Rattle.court_days.proofs.DaysLemmas.MendLemmas.{kept_uncounted, kept_uncovered, kept_rolling}
use Rattle.court_days.proofs.days.table.place_to_close.Goals as goal

pub returns-then-not-counts_in-clause-none : goal.returns-then-not-counts_in-clause-none
returns-then-not-counts_in-clause-none c =
    kept_uncounted c.args.holidays.now c.args.list c.args.direction c.args.day c.args.entries.now c.requires (sym c.counts_in.ensures ∙ c.if-not-counts_in.true)

pub returns-in_default-clause-none : goal.returns-in_default-clause-none
returns-in_default-clause-none c =
    kept_uncovered c.args.holidays.now c.args.list c.args.direction c.args.day c.args.entries.now c.requires c.in_default.ensures.none

pub returns-then-entries-place-ne0-clause-none : goal.returns-then-entries-place-ne0-clause-none
returns-then-entries-place-ne0-clause-none c =
    kept_rolling c.args.holidays.now c.args.list c.args.direction c.args.day c.in-Some.place c.args.entries.now c.requires (omega (arith, c.in-Some.ensures.within, c.requires.whole)) c.in-Some.ensures.some c.if-entries-place-ne0.true
