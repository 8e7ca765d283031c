use Rattle.std.proofs.Common.{[], ◌≡◌, Result, Ok, Err}
use Rattle.std.specs.Prelude.{IfOk, OnOk}
use Rattle.std.specs.Io.KnownBytes.{Appends}
use Rattle.desk_session.specs.Words.{lines_of, tally_of, told_to}
use Rattle.desk_entries.specs.Words.{came_shown, shown}
use Rattle.program_streams.specs.Words.{watched}
use Rattle.desk_program.proofs.DeskLemmas.{some_both}
use Rattle.desk_program.proofs.asking.ask.Goals as goal

-- what follows of a value by two clauses
by_both : {A E : Type 0} (r : Result A E) (P : Type 0) (Q So : A → Type 0) → OnOk r P → IfOk r Q → ((a : A) → P → Q a → So a) → IfOk r So
by_both (Ok a) P Q So p q so = so a p q
by_both (Err e) P Q So p q so = q

pub returns-clause-answered : goal.returns-clause-answered
returns-clause-answered g c = λ entries docketed.
    let under = c.args.docketed.standing in
    by_both c.answer.result _ _ _ (c.answer.ensures.answered entries docketed.stands.at) (c.answer.ensures.tally entries docketed.stands.at)
    (λ tally told counted.
    some_both (g.R.Read.remaining (watched c.args.reader.now))
    (λ input. Appends (g.W.Write.contents (watched c.args.writer.now)) (g.W.Write.contents (watched c.answer.new.writer)) (told_to (λ kept line. []) (shown under) entries (lines_of input)))
    (λ input. tally ≡ tally_of (λ kept line. []) (came_shown under) entries (lines_of input)) _
    (λ input told counted. record { under = under; stands = docketed.standing; told = told; counted = counted })
    told counted)

pub returns-clause-front : goal.returns-clause-front
returns-clause-front g c = λ entries docketed.
    let it = c.answer.ensures.front entries docketed.stands.at in
    (it.0, it.1, record { under = c.args.docketed.standing; stands = docketed.standing; told = it.2 })
