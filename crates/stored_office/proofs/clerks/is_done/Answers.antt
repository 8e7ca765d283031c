use Rattle.std.proofs.Common.{◌≡◌, ℕ, length, ap, sym, ◌∙◌, subst}
use Rattle.clerk_workers.specs.Words.{AreInOrder, AreOfClerks}
use Rattle.clerk_workers.proofs.CallerLemmas.{open_in_order, open_long}
use Rattle.stored_office.proofs.clerks.is_done.Goals as goal

-- the seats of a new office are in the order of their numbers, and there are as many as were asked for
pub tallies_of-requires-clause-in_order : goal.tallies_of-requires-clause-in_order
tallies_of-requires-clause-in_order g c κs within =
    let opened = c.in-Ok.ensures in
    subst AreInOrder (sym opened.seats_are) (open_in_order c.args.opening.number c.args.opening.seats)

pub tallies_of-requires-clause-clerks : goal.tallies_of-requires-clause-clerks
tallies_of-requires-clause-clerks g c κs within =
    let opened = c.in-Ok.ensures in
    let clerks : length c.in-Ok.seats.items ≡ c.args.opening.seats = ap length opened.seats_are ∙ open_long c.args.opening.number c.args.opening.seats in
    let P : ℕ → Type 0 = λ n. AreOfClerks n c.args.rows.now in
    subst P (sym clerks) c.requires.clerks
