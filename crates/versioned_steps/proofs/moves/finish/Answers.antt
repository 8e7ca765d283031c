use Rattle.std.proofs.Common.{◌≡◌, ◌+◌, ◌++◌, ◌∷◌, [], Some, ap, ◌∙◌}
use Rattle.versioned_steps.specs.Drafts.{decided}
use Rattle.versioned_steps.specs.History.{answer_on, value_of}
use Rattle.versioned_steps.specs.Stores.{Replays}
use Rattle.versioned_steps.specs.declared.entry.Entry.{Entry}
use Rattle.versioned_steps.proofs.ReadLemmas.{settled_ready, settled_entry}
use Rattle.versioned_steps.proofs.moves.finish.Goals as goal

pub returns-clause-ok : goal.returns-clause-ok
returns-clause-ok g c =
    let r = g.P.Parted.rules c.args.store.now.owner in
    let h = c.args.history.now.items in
    let d = c.args.draft.now in
    let settled : c.settle.new.self ≡ record d { decision = Some (decided r d.command d.reads) } =
    c.in_ok-settle.ensures.ok ∙ ap (λ owner. record d { decision = Some (decided (g.P.Parted.rules owner) d.command d.reads) }) c.parts.ensures in
    let entry : c.in_ok-entry.entry ≡ record { clerk = c.args.clerk; command = d.command; answer = answer_on r (value_of r h) d.command } =
    settled_entry r (g.met.P.Parted.lawful c.args.store.now.owner) h d c.settle.new.self c.requires.ready settled c.in_ok-entry.entry c.args.clerk
    c.in_ok-entry.ensures.clerk c.in_ok-entry.ensures.command c.in_ok-entry.ensures.answer in
    record {
      place_is = c.in_ok-place.ensures.place ∙ ap (λ n. n + 1) c.requires.replays.length;
      answer_is = c.in_ok-answer.ensures ∙ ap (λ (e : Entry g.row.P-Command.Denot g.row.P-Answer.Denot). e.answer) entry;
      history_is = c.push_reserved.ensures.items ∙ ap (λ l. l ++ c.in_ok-entry.entry ∷ []) c.in_ok-reserve.ensures.items ∙ ap (λ e. h ++ e ∷ []) entry;
    }

pub returns-clause-replays : goal.returns-clause-replays
returns-clause-replays g c =
    let r = g.P.Parted.rules c.args.store.now.owner in
    let h = c.args.history.now.items in
    let d = c.args.draft.now in
    let settled : c.settle.new.self ≡ record d { decision = Some (decided r d.command d.reads) } =
    c.in_ok-settle.ensures.ok ∙ ap (λ owner. record d { decision = Some (decided (g.P.Parted.rules owner) d.command d.reads) }) c.parts.ensures in
    let longer : Replays r (h ++ c.in_ok-entry.entry ∷ []) c.apply.new.self =
    c.in_ok-place.ensures.finished h c.in_ok-entry.entry c.requires.replays (settled_ready r h d c.settle.new.self c.requires.ready settled) c.in_ok-entry.ensures.command in
    rw c.push_reserved.ensures.items (rw c.in_ok-reserve.ensures.items longer)
