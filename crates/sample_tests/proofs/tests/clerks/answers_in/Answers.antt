use Rattle.std.proofs.Common.{◌≡◌, ℕ, length, ap, sym, ◌∙◌, subst}
use Rattle.clerk_workers.specs.Words.{AreInOrder, AreOfClerks}
use Rattle.clerk_workers.proofs.CallerLemmas.{open_in_order, open_long}
use Rattle.sample_tests.proofs.tests.clerks.answers_in.Goals as goal

pub run_clerks-requires-clause-in_order : goal.run_clerks-requires-clause-in_order
run_clerks-requires-clause-in_order g c κs within =
    let opened = c.in-Ok.ensures in
    subst AreInOrder (sym opened.seats_are) (open_in_order c.args.limit c.args.seats)

pub run_clerks-requires-clause-clerks : goal.run_clerks-requires-clause-clerks
run_clerks-requires-clause-clerks g c κs within =
    let opened = c.in-Ok.ensures in
    let clerks : length c.in-Ok.seats.items ≡ c.args.seats = ap length opened.seats_are ∙ open_long c.args.limit c.args.seats in
    let P : ℕ → Type 0 = λ n. AreOfClerks n c.args.rows.now in
    subst P (sym clerks) c.requires.clerks
