use Rattle.std.proofs.Common.{◌∙◌, ◌+◌, ℕ, Bool, List, ap, arith, drop, sym}
use Rattle.desk_journal.specs.Words.{batch_of}
use Rattle.desk_register.specs.Words.{note_in}
use Rattle.desk_entries.specs.Past.{is_struck_first, strikes_first}
use Rattle.desk_entries.proofs.PastLemmas.{none_struck_first, strikes_found, strikes_none, struck_first_next}
use Rattle.desk_entries.proofs.past.is_struck_first.Goals as goal

pub returns-in-Some : goal.returns-in-Some
returns-in-Some c =
    let number = c.args.number in
    let others : Bool = is_struck_first number (batch_of (drop (c.loop-place.place + 1) c.args.later.now)) in
    sym (strikes_found number (note_in c.deref.result.now) others c.in-Some.strikes c.in-Some.ensures)
    ∙ ap (λ (e : List ℕ). strikes_first number (note_in e) others) c.deref.ensures.value
    ∙ sym (struck_first_next number c.args.later.now c.loop-place.place c.index-later-place.result c.loop-place-test.true c.index-later-place.is)
    ∙ c.loop-place.invariant

pub loop-place-preserved : goal.loop-place-preserved
loop-place-preserved c =
    let number = c.args.number in
    let others : Bool = is_struck_first number (batch_of (drop (c.loop-place.place + 1) c.args.later.now)) in
    sym (strikes_none number (note_in c.deref.result.now) others (sym c.in_default.is ∙ c.strikes_it.ensures))
    ∙ ap (λ (e : List ℕ). strikes_first number (note_in e) others) c.deref.ensures.value
    ∙ sym (struck_first_next number c.args.later.now c.loop-place.place c.index-later-place.result c.loop-place-test.true c.index-later-place.is)
    ∙ c.loop-place.invariant

pub returns : goal.returns
returns c = sym (none_struck_first c.args.number c.args.later.now c.loop-place.place (omega (arith, c.loop-place-test.false))) ∙ c.loop-place.invariant
