use Rattle.std.proofs.Common.{◌≡◌, ◌+◌, ◌++◌, ◌∷◌, [], ◌∙◌, List, ap, arith}
use Rattle.docket_rows.specs.declared.answer.Answer.{Answer}
use Rattle.docket_rows.specs.declared.command.Command.{Command}
use Rattle.versioned_steps.specs.declared.entry.Entry.{Entry}
use Rattle.versioned_steps.specs.Words.{MayCommit, Replays, value_of, writes_on}
use Rattle.versioned_steps.proofs.CallerLemmas.{staged_writes}
use Rattle.shared_docket.specs.Words.{docket_rules}
use Rattle.shared_docket.proofs.CallerLemmas.{docket_lawful}
use Rattle.clerk_seats.proofs.BookLemmas.{ready, entry_next, next_follows, store_longer, book_longer}
use Rattle.clerk_seats.proofs.book.Book.commit.Goals as goal

pub publish-requires-clause-follows : goal.publish-requires-clause-follows
publish-requires-clause-follows g c =
    let setup = g.L.NamesOffice.setup in
    let was = c.self.invariant in
    let h = c.self.inside.journal.items in
    let d = c.args.draft.now in
    let may : MayCommit (docket_rules setup) h d = ready setup h d c.self.inside.store was.owner was.replays c.in_default.ensures.fresh (rw (← c.self.view_is) at c.requires.prepared) in
    let made = c.entry_of-entry.ensures in
    let same = entry_next setup h d c.entry_of-entry.result may made.clerk made.command made.answer in
    rw was.published_is (next_follows setup h d.clerk d.command c.entry_of-entry.result same)

pub publish-requires-clause-writes : goal.publish-requires-clause-writes
publish-requires-clause-writes g c =
    let setup = g.L.NamesOffice.setup in
    let was = c.self.invariant in
    let h = c.self.inside.journal.items in
    let d = c.args.draft.now in
    let may : MayCommit (docket_rules setup) h d = ready setup h d c.self.inside.store was.owner was.replays c.in_default.ensures.fresh (rw (← c.self.view_is) at c.requires.prepared) in
    let written = staged_writes (docket_rules setup) (docket_lawful setup) h d may c.in_ok-change.change.writes c.in_ok-change.ensures.writes in
    let copied : c.in_ok-writes.writes.items ≡ c.in_ok-change.change.writes = c.in_ok-writes.ensures ∙ c.writes.ensures in
    rw (was.published_is, c.entry_of-entry.ensures.command) (copied ∙ written)

pub invariant_of-self-2 : goal.invariant_of-self-2
invariant_of-self-2 g c =
    let setup = g.L.NamesOffice.setup in
    let was = c.self.invariant in
    let h = c.self.inside.journal.items in
    let d = c.args.draft.now in
    let e = c.entry_of-entry.result in
    let may : MayCommit (docket_rules setup) h d = ready setup h d c.self.inside.store was.owner was.replays c.in_default.ensures.fresh (rw (← c.self.view_is) at c.requires.prepared) in
    let written : c.in_ok-change.change.writes ≡ writes_on (docket_rules setup) (value_of (docket_rules setup) h) e.command =
    rw c.entry_of-entry.ensures.command (staged_writes (docket_rules setup) (docket_lawful setup) h d may c.in_ok-change.change.writes c.in_ok-change.ensures.writes) in
    let replays : Replays (docket_rules setup) (h ++ e ∷ []) c.finish-place.new.self =
    store_longer setup h e c.self.inside.store c.stage.new.self c.finish-place.new.self c.in_ok-change.change.writes was.owner c.stage.ensures.owner was.replays c.stage.ensures.kept c.finish-place.ensures.put written in
    let pushed : c.push_reserved.new.self.items ≡ h ++ e ∷ [] = c.push_reserved.ensures.items ∙ ap (λ (l : List (Entry Command Answer)). l ++ e ∷ []) c.in_ok-reserve.ensures.items in
    book_longer g.L.NamesOffice.history setup c.self.inside.publisher c.publish.new.self h c.push_reserved.new.self.items c.self.inside.store c.finish-place.new.self c.self.inside.counted.total c.add.new.self.total e was c.in_ok-publish.ensures pushed (c.finish-place.ensures.owner ∙ c.stage.ensures.owner) replays c.add.ensures.total

pub returns-clause-commits : goal.returns-clause-commits
returns-clause-commits g c =
    let setup = g.L.NamesOffice.setup in
    let was = c.self.invariant in
    let h = c.self.inside.journal.items in
    let d = c.args.draft.now in
    let e = c.entry_of-entry.result in
    let may : MayCommit (docket_rules setup) h d = ready setup h d c.self.inside.store was.owner was.replays c.in_default.ensures.fresh (rw (← c.self.view_is) at c.requires.prepared) in
    let made = c.entry_of-entry.ensures in
    let same = entry_next setup h d e may made.clerk made.command made.answer in
    let pushed : c.push_reserved.new.self.items ≡ h ++ e ∷ [] = c.push_reserved.ensures.items ∙ ap (λ (l : List (Entry Command Answer)). l ++ e ∷ []) c.in_ok-reserve.ensures.items in
    let place : c.finish-place.result ≡ c.self.inside.store.length + 1 = c.finish-place.ensures.place ∙ ap (λ n. n + 1) c.stage.ensures.length in
    rw (← c.self.view_is) (record {
      made = record {
        room = omega (arith, c.if-limit-len.false, c.len.ensures);
        place = place ∙ ap (λ n. n + 1) was.replays.length;
        answer = ap (λ (x : Entry Command Answer). x.answer) same;
        history = pushed ∙ ap (λ x. h ++ x ∷ []) same;
      };
      fresh = may.fresh;
    })
