use Rattle.std.proofs.Common.{◌≡◌, ◌∙◌, Some, None, ap, subst, rules}
use Rattle.versioned_steps.specs.Reads.{copies_of}
use Rattle.versioned_steps.specs.Drafts.{DraftView, decided}
use Rattle.versioned_steps.specs.Stores.{StoreView}
use Rattle.versioned_steps.proofs.ReadLemmas.{reads_more}
use Rattle.versioned_steps.proofs.PreparedLemmas.{reading_more, reading_done}
use Rattle.versioned_steps.proofs.store.Store.prepare.Goals as goal

pub loop-part-preserved : goal.loop-part-preserved
loop-part-preserved g c =
    let Draft : Type 0 = DraftView g.row.P-Part.Denot g.row.P-Value.Denot g.row.P-Command.Denot g.row.P-Answer.Denot in
    let Store : Type 0 = StoreView g.row.P.Denot g.row.P-Part.Denot g.row.P-Value.Denot in
    let r = g.P.Parted.rules c.args.self.now.owner in
    let d = c.loop-part.draft in
    let owner : c.self.inside.parts ≡ c.args.self.now.owner = ap (λ (x : Store). x.owner) c.self.view_is in
    let length : c.self.inside.length ≡ c.args.self.now.length = ap (λ (x : Store). x.length) c.self.view_is in
    let Next : g.row.P.Denot → Type 0 = λ o. (g.P.Parted.rules o).next_part d.command (copies_of d.reads) ≡ Some c.in-Some.part in
    let here : (g.P.Parted.rules c.self.inside.parts).next_part d.command (copies_of d.reads) ≡ Some c.in-Some.part = search rules in
    let next : r.next_part d.command (copies_of d.reads) ≡ Some c.in-Some.part = subst Next owner here in
    record {
      clerk = ap (λ (x : Draft). x.clerk) c.in_ok-add.ensures.ok ∙ c.loop-part.invariant.clerk;
      command = ap (λ (x : Draft). x.command) c.in_ok-add.ensures.ok ∙ c.loop-part.invariant.command;
      in_order = rw c.in_ok-add.ensures.ok (reads_more r d.command d.reads _ next c.loop-part.invariant.in_order);
      reading = λ h replays. rw c.in_ok-add.ensures.ok
          (reading_more r h d c.in-Some.part c.in_ok-version.value c.in_ok-version.version c.self.inside.length (length ∙ replays.length)
          (c.in_ok-version.ensures.version h replays) (c.in_ok-version.ensures.value h replays) next (c.loop-part.invariant.reading h replays));
    }

pub returns-clause-read : goal.returns-clause-read
returns-clause-read g c = λ h replays.
    let Store : Type 0 = StoreView g.row.P.Denot g.row.P-Part.Denot g.row.P-Value.Denot in
    let r = g.P.Parted.rules c.args.self.now.owner in
    let d = c.loop-part.draft in
    let owner : c.self.inside.parts ≡ c.args.self.now.owner = ap (λ (x : Store). x.owner) c.self.view_is in
    let Ended : g.row.P.Denot → Type 0 = λ o. (g.P.Parted.rules o).next_part d.command (copies_of d.reads) ≡ None in
    let here : (g.P.Parted.rules c.self.inside.parts).next_part d.command (copies_of d.reads) ≡ None = search rules in
    let settled : c.settle.new.self ≡ record d { decision = Some (decided r d.command d.reads) } =
    c.in_ok-settle.ensures.ok ∙ ap (λ o. record d { decision = Some (decided (g.P.Parted.rules o) d.command d.reads) }) owner in
    reading_done r h d c.settle.new.self (c.loop-part.invariant.reading h replays) (subst Ended owner here) settled
