use Rattle.std.proofs.Common.{◌∙◌, ◌+◌, ◌||◌, ℕ, Bool, List, ap, arith, drop, sym}
use Rattle.desk_journal.specs.Words.{batch_of}
use Rattle.desk_register.specs.Words.{note_in}
use Rattle.desk_entries.specs.Past.{is_restored, restores_it}
use Rattle.desk_entries.proofs.PastLemmas.{none_restored, restored_next}
use Rattle.desk_entries.proofs.past.is_restored.Goals as goal

pub returns-then-restores_it : goal.returns-then-restores_it
returns-then-restores_it c =
    let others : Bool = is_restored c.args.number (batch_of (drop (c.loop-place.place + 1) c.args.later.now)) in
    ap (λ (b : Bool). b || others) (sym c.if-restores_it.true ∙ c.restores_it.ensures ∙ ap (λ (e : List ℕ). restores_it c.args.number (note_in e)) c.deref.ensures.value)
    ∙ sym (restored_next c.args.number c.args.later.now c.loop-place.place c.index-later-place.result c.loop-place-test.true c.index-later-place.is)
    ∙ c.loop-place.invariant

pub loop-place-preserved : goal.loop-place-preserved
loop-place-preserved c =
    let others : Bool = is_restored c.args.number (batch_of (drop (c.loop-place.place + 1) c.args.later.now)) in
    ap (λ (b : Bool). b || others) (sym c.if-restores_it.false ∙ c.restores_it.ensures ∙ ap (λ (e : List ℕ). restores_it c.args.number (note_in e)) c.deref.ensures.value)
    ∙ sym (restored_next c.args.number c.args.later.now c.loop-place.place c.index-later-place.result c.loop-place-test.true c.index-later-place.is)
    ∙ c.loop-place.invariant

pub returns : goal.returns
returns c = sym (none_restored c.args.number c.args.later.now c.loop-place.place (omega (arith, c.loop-place-test.false))) ∙ c.loop-place.invariant
