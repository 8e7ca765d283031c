use Rattle.std.proofs.Common.{◌∙◌, ◌++◌, ℕ, List, ap}
use Rattle.docket_shifts.specs.Words.{ShownRows, rows_shown, shifts}
use Rattle.desk_entries.specs.Words.{docketed_by}
use Rattle.desk_program.specs.Correction.{shown_at}
use Rattle.desk_program.proofs.correction.moved_text.Goals as goal

pub returns : goal.returns
returns c = λ entries stands after_stands.
    let was = docketed_by c.args.now.now entries in
    let is = docketed_by c.args.after.now entries in
    let after = rows_shown c.compared-is.result is in
    c.in_ok-push_shifts.ensures was is (c.compared-was.ensures.holds entries stands) (c.compared-is.ensures.holds entries after_stands)
    ∙ ap (λ (l : List ℕ). l ++ shifts (rows_shown c.compared-was.result was) after) c.new-text.ensures.bytes
    ∙ ap (λ (s : ShownRows). shifts s after) (c.compared-was.ensures.rows entries stands)
    ∙ ap (λ (s : ShownRows). shifts (shown_at c.args.now.now entries) s) (c.compared-is.ensures.rows entries after_stands)
