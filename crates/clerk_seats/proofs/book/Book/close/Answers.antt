use Rattle.std.proofs.Common.{◌≡◌, ℕ, ◌-◌, ◌≤◌, true, List, length, All, ◌∙◌, sym, ap, subst, arith}
use mathlib.Core.List.{IsPrefix}
use Rattle.docket_rows.specs.declared.answer.Answer.{Answer}
use Rattle.docket_rows.specs.declared.command.Command.{Command}
use Rattle.versioned_steps.specs.declared.entry.Entry.{Entry}
use Rattle.versioned_steps.specs.Words.{is_legal}
use Rattle.shared_docket.specs.Words.{docket_rules}
use Rattle.published_docket.specs.declared.known.Known.{Known}
use Rattle.published_docket.specs.Words.{TrailView}
use Rattle.clerk_seats.specs.Closed.{TallyView, HasTallies, IsClosed, calls_of}
use Rattle.clerk_seats.specs.Places.{Within, places_of}
use Rattle.clerk_seats.proofs.ClosingLemmas.{closes, enough}
use Rattle.clerk_seats.proofs.book.Book.close.Goals as goal

pub returns-clause-closed : goal.returns-clause-closed
returns-clause-closed g c =
    let setup = g.L.NamesOffice.setup in
    let was = c.self.invariant in
    let h : List (Entry Command Answer) = c.self.inside.journal.items in
    let ts : List TallyView = c.args.tallies.now.items in
    let seats : ℕ = 64 - c.args.rest.now.parts in
    let whole : HasTallies seats ts = c.requires.whole seats (omega (arith, c.requires.parts)) in
    let few : length ts ≤ seats = omega (arith, c.requires.all, c.requires.parts, c.merge_all.ensures.parts, c.merge_all.ensures.few) in
    let merged : c.merge_all.new.rest.parts ≡ g.L.Ledger.parts = omega (arith, c.requires.all, c.requires.parts, c.merge_all.ensures.parts, c.merge_all.ensures.few, enough seats ts whole) in
    let all : calls_of ts ≡ length h = omega (arith, c.requires.amount, c.merge_all.ensures.amount, c.audit.ensures.whole merged, was.counted) in
    let P : Known → Type 0 = λ k. is_legal (docket_rules k.parts) k.trail.log ≡ true in
    let legal : is_legal (docket_rules setup) h ≡ true = subst P was.published_is c.trail.ensures.legal in
    let log : c.trail.result.now.log ≡ h = ap (λ (t : TrailView). t.log) c.trail.ensures.value ∙ ap (λ (k : Known). k.trail.log) was.published_is in
    let same : c.deref.result.now ≡ ts = c.deref.ensures.value in
    let seen : All (λ (t : TallyView). IsPrefix t.seen h) ts = rw (log, same) at c.wait_for_all.ensures.seen in
    let mine : All (λ (t : TallyView). Within t.mine (places_of t.number h)) ts = rw (log, same) at c.wait_for_all.ensures.mine in
    subst (IsClosed setup ts) (sym c.new.ensures) (closes seats ts whole setup h few legal seen mine all)
