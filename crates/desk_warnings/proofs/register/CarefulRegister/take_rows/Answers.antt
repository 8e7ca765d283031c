use Rattle.std.proofs.Common.{Bor, ◌∙◌, ℕ, List, [], ◌∷◌, ◌++◌, get_or, take, ap, sym, subst}
use Rattle.std.proofs.lemmas.List.{get_or_default, take_all}
use Rattle.desk_journal.specs.Words.{batch_of}
use Rattle.desk_session.specs.Words.{TakesLines, left_by}
use Rattle.desk_session.specs.declared.outcome.Outcome.{Outcome}
use Rattle.desk_session.specs.declared.outcome.Outcome.TheVariants.{Blank}
use Rattle.desk_session.proofs.CallerLemmas.{more_taken, none_taken, one_taken}
use Rattle.desk_register.specs.Words.{IsReadyAt, leaves, outcome, told}
use Rattle.desk_warnings.specs.Inside.Rows.{row_texts}
use Rattle.desk_warnings.specs.Rows.{came_of_rows, either_came}
use Rattle.desk_warnings.proofs.RowLemmas.{came_more, none_came, rows_more}
use Rattle.desk_warnings.proofs.register.CarefulRegister.take_rows.Goals as goal

pub loop-row-init : goal.loop-row-init
loop-row-init c = λ kept stands.
    let under = c.args.standing.now in (
      none_taken (leaves under) (told under) (IsReadyAt under c.args.self.now.register) kept (batch_of c.args.batch.now.items) c.args.text.now.items stands,
      sym (none_came under kept),
    )

pub loop-row-preserved : goal.loop-row-preserved
loop-row-preserved c = λ kept stands.
    let under = c.args.standing.now in
    let rows = c.args.rows.now in
    let i = c.loop-row.row-index in
    let some = row_texts (take i rows) in
    let blank : Bor (List ℕ) = record { ref_ptr = (0, 0); now = [] } in
    let place : Bor (List ℕ) = get_or rows i blank in
    let row = place.now in
    let (taken, came) = c.loop-row.invariant kept stands in
    let entries = kept ++ left_by (leaves under) kept some in
    let more = rows_more rows i place c.loop-row-test.true (get_or_default rows i blank place c.loop-row-test.true) in
    let ready = IsReadyAt under c.loop-row.self.register in
    let ready_then = IsReadyAt under c.take.new.self in
    let batch = batch_of c.args.batch.now.items in
    let text = c.args.text.now.items in (
      subst (λ (l : List (List ℕ)). TakesLines (leaves under) (told under) ready_then kept l batch (batch_of c.take.new.batch.items) text c.take.new.text.items) (sym more)
          (more_taken (leaves under) (told under) ready ready_then kept some (row ∷ []) batch (batch_of c.loop-row.batch.items) (batch_of c.take.new.batch.items) text c.loop-row.text.items c.take.new.text.items taken
          (one_taken (leaves under) (told under) ready_then entries row (batch_of c.loop-row.batch.items) (batch_of c.take.new.batch.items) c.loop-row.text.items c.take.new.text.items (c.in_ok-outcome.ensures.taken entries taken.stands))),
      c.either_came-came.ensures
          ∙ ap (either_came c.loop-row.came) (c.in_ok-outcome.ensures.came entries taken.stands)
          ∙ ap (λ (o : Outcome). either_came o (outcome under entries row)) came
          ∙ sym (came_more under Blank kept some row)
          ∙ ap (came_of_rows under kept) (sym more),
    )

pub returns-clause-taken : goal.returns-clause-taken
returns-clause-taken c = λ kept stands.
    let under = c.args.standing.now in
    let (taken, came) = c.loop-row.invariant kept stands in
    subst (λ rows. TakesLines (leaves under) (told under) (IsReadyAt under c.loop-row.self.register) kept (row_texts rows) (batch_of c.args.batch.now.items) (batch_of c.loop-row.batch.items) c.args.text.now.items c.loop-row.text.items)
    (take_all c.loop-row.row-index c.args.rows.now c.loop-row-test.false) taken

pub returns-clause-came : goal.returns-clause-came
returns-clause-came c = λ kept stands.
    let (taken, came) = c.loop-row.invariant kept stands in
    came ∙ ap (λ rows. came_of_rows c.args.standing.now kept (row_texts rows)) (take_all c.loop-row.row-index c.args.rows.now c.loop-row-test.false)
