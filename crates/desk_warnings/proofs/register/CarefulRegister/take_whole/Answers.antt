use Rattle.std.proofs.Common.{◌≡◌, ◌∙◌, ◌++◌, [], ℕ, List, sym, ap, refl, subst}
use Rattle.std.proofs.lemmas.Result.{IfOk-weaker, on_ok_weaker}
use Rattle.desk_journal.specs.Words.{batch_of}
use Rattle.desk_session.specs.Words.{TakesLines}
use Rattle.desk_register.specs.Words.{IsReadyAt, leaves, next_number, told}
use Rattle.desk_warnings.specs.Careful.{came_of_taken, held_text, whole_outcome}
use Rattle.desk_warnings.specs.Inside.Rows.{row_texts}
use Rattle.desk_warnings.specs.Rows.{against_rows, came_of_rows, line_rows}
use Rattle.desk_warnings.proofs.CarefulLemmas.{all_taken, as_taken, held_back, none_taken}
use Rattle.desk_warnings.proofs.register.CarefulRegister.take_whole.Goals as goal

pub returns-then-are_none-clause-taken : goal.returns-then-are_none-clause-taken
returns-then-are_none-clause-taken c = λ kept stands.
    let under = c.args.standing.now in
    let held = c.args.held_back.now in
    let line = c.args.line.now in
    let rows : row_texts c.as_slice-rows.result.now ≡ line_rows line = ap row_texts c.as_slice-rows.ensures.value ∙ c.in_ok-found.ensures in
    let against = c.in_ok-against.ensures kept stands.at ∙ ap (against_rows under held kept) rows in
    let none = sym against ∙ sym c.as_str.ensures.value ∙ c.are_none.ensures.none c.if-are_none.true in
    let ready = IsReadyAt under c.take_rows.new.self.register in
    on_ok_weaker c.take_rows.result
    (λ takes. as_taken under held c.take_rows.new.self.register kept line (batch_of c.args.batch.now.items) (batch_of c.take_rows.new.batch.items) c.args.text.now.items c.take_rows.new.text.items
    (all_taken (line_rows line) (against_rows under held kept (line_rows line)) none)
    (subst (λ (l : List (List ℕ)). TakesLines (leaves under) (told under) ready kept l (batch_of c.args.batch.now.items) (batch_of c.take_rows.new.batch.items) c.args.text.now.items c.take_rows.new.text.items) rows takes))
    (c.take_rows.ensures.taken kept stands)

pub returns-then-are_none-clause-came : goal.returns-then-are_none-clause-came
returns-then-are_none-clause-came c = λ kept stands.
    let under = c.args.standing.now in
    let held = c.args.held_back.now in
    let line = c.args.line.now in
    let found = c.as_slice-rows.result.now in
    let rows : row_texts found ≡ line_rows line = ap row_texts c.as_slice-rows.ensures.value ∙ c.in_ok-found.ensures in
    let against = c.in_ok-against.ensures kept stands.at ∙ ap (against_rows under held kept) rows in
    let none = sym against ∙ sym c.as_str.ensures.value ∙ c.are_none.ensures.none c.if-are_none.true in
    IfOk-weaker c.take_rows.result (λ came. came ≡ came_of_rows under kept (row_texts found)) (λ came. came ≡ whole_outcome under held kept line)
    (λ came is. is ∙ ap (came_of_rows under kept) rows ∙ ap (came_of_taken under held kept) (sym (all_taken (line_rows line) (against_rows under held kept (line_rows line)) none)))
    (c.take_rows.ensures.came kept stands)

pub returns-clause-taken : goal.returns-clause-taken
returns-clause-taken c = λ kept stands.
    let under = c.args.standing.now in
    let held = c.args.held_back.now in
    let line = c.args.line.now in
    let text = c.args.text.now.items in
    let rows : row_texts c.as_slice-rows.result.now ≡ line_rows line = ap row_texts c.as_slice-rows.ensures.value ∙ c.in_ok-found.ensures in
    let against = c.in_ok-against.ensures kept stands.at ∙ ap (against_rows under held kept) rows in
    held_back under held c.args.self.now.register kept line (batch_of c.args.batch.now.items) (batch_of c.args.batch.now.items) text c.push_held.new.text.items
    (none_taken (line_rows line) (against_rows under held kept (line_rows line)) (λ e. c.are_none.ensures.some c.if-are_none.false (c.as_str.ensures.value ∙ against ∙ e))) stands refl
    (c.in_ok-push_held.ensures ∙ ap (λ (n : ℕ). text ++ held_text held n c.as_str-2.result.now) (c.next_number-number.ensures under kept stands.at)
    ∙ ap (λ (w : List ℕ). text ++ held_text held (next_number kept) w) (c.as_str-2.ensures.value ∙ against))

pub returns-clause-came : goal.returns-clause-came
returns-clause-came c = λ kept stands.
    let under = c.args.standing.now in
    let held = c.args.held_back.now in
    let line = c.args.line.now in
    let rows : row_texts c.as_slice-rows.result.now ≡ line_rows line = ap row_texts c.as_slice-rows.ensures.value ∙ c.in_ok-found.ensures in
    let against = c.in_ok-against.ensures kept stands.at ∙ ap (against_rows under held kept) rows in
    c.held_came.ensures ∙ ap (came_of_taken under held kept) (sym (none_taken (line_rows line) (against_rows under held kept (line_rows line)) (λ e. c.are_none.ensures.some c.if-are_none.false (c.as_str.ensures.value ∙ against ∙ e))))
