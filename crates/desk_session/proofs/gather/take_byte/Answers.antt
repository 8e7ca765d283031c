use Rattle.std.proofs.Common.{◌∙◌, ℕ, List, [], ◌∷◌, ap, sym, subst}
use Rattle.desk_journal.specs.Words.{batch_of}
use Rattle.desk_session.specs.Outcomes.{counted_with, tally_after}
use Rattle.desk_session.specs.Taken.{TakesLines}
use Rattle.desk_session.proofs.LineLemmas.{line_ends, line_goes_on, next_begins, no_line_ends}
use Rattle.desk_session.proofs.OutcomeLemmas.{none_counted, one_counted}
use Rattle.desk_session.proofs.TakenLemmas.{none_taken, one_taken}
use Rattle.desk_session.proofs.gather.take_byte.Goals as goal

pub returns-then-ends_line-clause-begun : goal.returns-then-ends_line-clause-begun
returns-then-ends_line-clause-begun g c =
    c.clear.ensures.items ∙ sym (next_begins c.args.begun.now.items c.args.byte (sym c.ends_line.ensures ∙ c.if-ends_line.true))

pub returns-then-ends_line-clause-taken : goal.returns-then-ends_line-clause-taken
returns-then-ends_line-clause-taken g c = λ kept stands.
    let leaves = g.O.Register.leaves c.args.setup.now in
    let answers = g.O.Register.answers c.args.setup.now in
    let after = g.O.Register.stands c.args.setup.now c.take.new.self in
    let whole = one_taken leaves answers after kept c.deref.result.now (batch_of c.args.batch.now.items) (batch_of c.take.new.batch.items) c.args.text.now.items c.take.new.text.items (c.in_ok-outcome.ensures.taken kept stands) in
    let line = subst (λ (l : List ℕ). TakesLines leaves answers after kept (l ∷ []) (batch_of c.args.batch.now.items) (batch_of c.take.new.batch.items) c.args.text.now.items c.take.new.text.items) c.deref.ensures.value whole in
    subst (λ (l : List (List ℕ)). TakesLines leaves answers after kept l (batch_of c.args.batch.now.items) (batch_of c.take.new.batch.items) c.args.text.now.items c.take.new.text.items)
    (sym (line_ends c.args.begun.now.items c.args.byte (sym c.ends_line.ensures ∙ c.if-ends_line.true))) line

pub returns-clause-begun : goal.returns-clause-begun
returns-clause-begun g c =
    c.in_ok-go_on.ensures.line ∙ sym (line_goes_on c.args.begun.now.items c.args.byte (sym c.ends_line.ensures ∙ c.if-ends_line.false))

pub returns-clause-taken : goal.returns-clause-taken
returns-clause-taken g c = λ kept stands.
    let leaves = g.O.Register.leaves c.args.setup.now in
    let answers = g.O.Register.answers c.args.setup.now in
    let as_before = g.O.Register.stands c.args.setup.now c.args.register.now in
    subst (λ (l : List (List ℕ)). TakesLines leaves answers as_before kept l (batch_of c.args.batch.now.items) (batch_of c.args.batch.now.items) c.args.text.now.items c.args.text.now.items)
    (sym (no_line_ends c.args.begun.now.items c.args.byte (sym c.ends_line.ensures ∙ c.if-ends_line.false)))
    (none_taken leaves answers as_before kept (batch_of c.args.batch.now.items) c.args.text.now.items stands)

pub returns-then-ends_line-clause-tally : goal.returns-then-ends_line-clause-tally
returns-then-ends_line-clause-tally g c = λ kept stands.
    let leaves = g.O.Register.leaves c.args.setup.now in
    let outcome = g.O.Register.outcome c.args.setup.now in
    c.counted.ensures
    ∙ ap (counted_with c.args.tally.now) (c.in_ok-outcome.ensures.came kept stands)
    ∙ ap (λ (line : List ℕ). counted_with c.args.tally.now (outcome kept line)) c.deref.ensures.value
    ∙ sym (one_counted leaves outcome c.args.tally.now kept c.args.begun.now.items)
    ∙ ap (tally_after leaves outcome c.args.tally.now kept) (sym (line_ends c.args.begun.now.items c.args.byte (sym c.ends_line.ensures ∙ c.if-ends_line.true)))

pub returns-clause-tally : goal.returns-clause-tally
returns-clause-tally g c = λ kept stands.
    let leaves = g.O.Register.leaves c.args.setup.now in
    let outcome = g.O.Register.outcome c.args.setup.now in
    sym (none_counted leaves outcome c.args.tally.now kept)
    ∙ ap (tally_after leaves outcome c.args.tally.now kept) (sym (no_line_ends c.args.begun.now.items c.args.byte (sym c.ends_line.ensures ∙ c.if-ends_line.false)))
