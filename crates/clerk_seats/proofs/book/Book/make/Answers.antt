use Rattle.versioned_steps.proofs.CallerLemmas.{now_not_stale}
use Rattle.shared_docket.specs.Words.{docket_rules}
use Rattle.clerk_seats.proofs.BookLemmas.{read_now}
use Rattle.clerk_seats.proofs.book.Book.make.Goals as goal

pub unreachable-requires : goal.unreachable-requires
unreachable-requires g c =
    let setup = g.L.NamesOffice.setup in
    let was = c.self.invariant in
    let h = c.self.inside.journal.items in
    let d = c.in_ok-draft.draft in
    let all = read_now setup h d c.self.inside.store was.owner was.replays c.in_ok-draft.ensures.read in
    let told = rw (c.in-Err-Stale.is, c.in-Err-Stale.field-0-is) at c.commit.ensures.commits in
    now_not_stale (docket_rules setup) h d.reads c.in-Err-Stale.field-0-0 c.in-Err-Stale.field-0-1 all.now (rw (← c.self.view_is) at told.stale)
