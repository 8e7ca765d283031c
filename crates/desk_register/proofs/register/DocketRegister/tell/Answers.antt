use Rattle.std.proofs.Common.{◌∙◌, ◌++◌, ℕ, List, ap, append_assoc}
use Rattle.case_numbers.specs.Words.{CasesView}
use Rattle.desk_numbers.specs.Words.{NumbersView}
use Rattle.desk_register.specs.Cases.{cases_of}
use Rattle.desk_register.specs.Entries.{next_number}
use Rattle.desk_register.specs.Rows.{answer_to}
use Rattle.desk_register.specs.Run.{docketed_by, run_by, run_with}
use Rattle.desk_register.specs.Shifts.{shifts_by, shifts_since}
use Rattle.desk_register.proofs.ShiftLemmas.{names_before}
use Rattle.desk_register.proofs.register.DocketRegister.tell.Goals as goal

pub returns-clause-done : goal.returns-clause-done
returns-clause-done c = λ kept stands. c.in_ok-done.ensures.done kept stands

pub returns-clause-told : goal.returns-clause-told
returns-clause-told c = λ kept stands.
    let under = c.args.under.now in
    let work = c.args.row.now.work in
    let court = under.court in
    let after = run_with under (run_by under kept) (next_number kept) work in
    let is_done = c.in_ok-done.ensures.done kept stands in
    let register = c.done.new.self in
    let told : List ℕ = c.extend_from_slice.new.self.items in
    c.in_ok-push_shifts.ensures after.docketed is_done.docket
    ∙ ap (λ (n : NumbersView). told ++ shifts_since court after.docketed n.moved register.cases.named c.in_ok-before.before) is_done.numbers
    ∙ ap (λ (k : CasesView). told ++ shifts_since court after.docketed after.numbers.moved k.named c.in_ok-before.before) is_done.cases
    ∙ ap (λ (l : List ℕ). told ++ l) (ap (shifts_since court after.docketed after.numbers.moved _) (c.in_ok-before.ensures (docketed_by under kept) stands.docket.stands) ∙ names_before court after.docketed (docketed_by under kept) after.numbers.moved (cases_of under kept) c.args.name work)
    ∙ ap (λ (l : List ℕ). l ++ shifts_by under kept c.args.row.now) (c.in_ok-extend_from_slice.ensures.items ∙ ap (λ (l : List ℕ). c.args.text.now.items ++ l) (c.as_bytes.ensures.value ∙ is_done.answer))
    ∙ append_assoc c.args.text.now.items (answer_to under kept c.args.row.now) (shifts_by under kept c.args.row.now)
