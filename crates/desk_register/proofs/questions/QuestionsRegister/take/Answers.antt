use Rattle.std.proofs.Common.{◌∙◌, ◌++◌, ℕ, List, append-nil, ap, refl, sym}
use Rattle.desk_journal.specs.Words.{batch_of}
use Rattle.row_forms.specs.declared.row.Work.{Work}
use Rattle.row_forms.specs.declared.line.line.Line.TheVariants as says
use Rattle.desk_register.specs.declared.cause.LineCause.{LineCause}
use Rattle.desk_register.specs.Entries.{next_number}
use Rattle.desk_register.specs.LineCauses.{fault_told}
use Rattle.desk_register.specs.Questions.{came_shown, came_to, command_text, shown_for}
use Rattle.desk_register.specs.Rows.{special_at}
use Rattle.desk_register.proofs.QuestionLemmas.{line_asked, shown_plain}
use Rattle.desk_register.proofs.RegisterLemmas.{as_it_was, cause_told}
use Rattle.desk_register.proofs.questions.QuestionsRegister.take.Goals as goal

pub returns-in-Blank-clause-taken : goal.returns-in-Blank-clause-taken
returns-in-Blank-clause-taken c = λ kept stands.
    let under = c.args.under.now in
    let is = sym (c.in_ok-said.ensures.said kept stands).said ∙ c.in-Blank.is in
    line_asked under (record { register = c.heard.new.self }) kept c.args.line.now (batch_of c.args._batch.now.items) c.args.text.now.items says.Blank is
    (as_it_was under c.args.self.now.register c.heard.new.self kept stands c.heard.ensures.docket c.heard.ensures.numbers c.heard.ensures.cases c.heard.ensures.called c.heard.ensures.number c.heard.ensures.count) c.args.text.now.items
    (sym (append-nil c.args.text.now.items) ∙ shown_plain under kept c.args.line.now c.args.text.now.items says.Blank is refl refl refl)

pub returns-in-Blank-clause-came : goal.returns-in-Blank-clause-came
unfolding came_shown
returns-in-Blank-clause-came c = λ kept stands. ap came_to (sym (sym (c.in_ok-said.ensures.said kept stands).said ∙ c.in-Blank.is))

pub returns-in_ok-push_cause-in-Fault-clause-taken : goal.returns-in_ok-push_cause-in-Fault-clause-taken
returns-in_ok-push_cause-in-Fault-clause-taken c = λ kept stands.
    let under = c.args.under.now in
    let line = c.args.line.now in
    let text = c.args.text.now.items in
    let before = as_it_was under c.args.self.now.register c.heard.new.self kept stands c.heard.ensures.docket c.heard.ensures.numbers c.heard.ensures.cases c.heard.ensures.called c.heard.ensures.number c.heard.ensures.count in
    line_asked under (record { register = c.heard.new.self }) kept line (batch_of c.args._batch.now.items) text (says.Fault c.in-Fault.cause) (sym (c.in_ok-said.ensures.said kept stands).said ∙ c.in-Fault.is)
    before c.push_cause.new.text.items
    (c.in_ok-push_cause-in-Fault.ensures
    ∙ ap (λ (n : ℕ). text ++ fault_told n line c.in_ok-cause-in-Fault.cause) (c.next_number.ensures under kept before)
    ∙ ap (λ (cause : LineCause). text ++ fault_told (next_number kept) line cause) (c.in_ok-cause-in-Fault.ensures kept before)
    ∙ ap (λ (l : List ℕ). text ++ l) (cause_told under kept line (special_at under kept line) c.in-Fault.cause))

pub returns-in_ok-push_cause-in-Fault-clause-came : goal.returns-in_ok-push_cause-in-Fault-clause-came
unfolding came_shown
returns-in_ok-push_cause-in-Fault-clause-came c = λ kept stands. ap came_to (sym (sym (c.in_ok-said.ensures.said kept stands).said ∙ c.in-Fault.is))

pub returns-in_ok-push_command-in-Command-clause-taken : goal.returns-in_ok-push_command-in-Command-clause-taken
returns-in_ok-push_command-in-Command-clause-taken c = λ kept stands.
    let under = c.args.under.now in
    let text = c.args.text.now.items in
    let before = as_it_was under c.args.self.now.register c.heard.new.self kept stands c.heard.ensures.docket c.heard.ensures.numbers c.heard.ensures.cases c.heard.ensures.called c.heard.ensures.number c.heard.ensures.count in
    let is = sym (c.in_ok-said.ensures.said kept stands).said ∙ c.in-Row.is in
    line_asked under (record { register = c.heard.new.self }) kept c.args.line.now (batch_of c.args._batch.now.items) text (says.Row c.in-Row.row) is
    before c.push_command.new.text.items
    (c.in_ok-push_command-in-Command.ensures ∙ ap (λ (n : ℕ). text ++ command_text n) (c.next_number-in-Command.ensures under kept before)
    ∙ ap (λ (w : Work). text ++ shown_for under kept c.in-Row.row w) (sym c.in-Command.is)
    ∙ shown_plain under kept c.args.line.now text (says.Row c.in-Row.row) is refl refl refl)

pub returns-in_ok-push_command-in-Command-clause-came : goal.returns-in_ok-push_command-in-Command-clause-came
unfolding came_shown
returns-in_ok-push_command-in-Command-clause-came c = λ kept stands. ap came_to (sym (sym (c.in_ok-said.ensures.said kept stands).said ∙ c.in-Row.is))

pub returns-in_ok-show-in-Query-clause-taken : goal.returns-in_ok-show-in-Query-clause-taken
returns-in_ok-show-in-Query-clause-taken c = λ kept stands.
    let under = c.args.under.now in
    let text = c.args.text.now.items in
    let before = as_it_was under c.args.self.now.register c.heard.new.self kept stands c.heard.ensures.docket c.heard.ensures.numbers c.heard.ensures.cases c.heard.ensures.called c.heard.ensures.number c.heard.ensures.count in
    let is = sym (c.in_ok-said.ensures.said kept stands).said ∙ c.in-Row.is in
    line_asked under (record { register = c.show.new.self }) kept c.args.line.now (batch_of c.args._batch.now.items) text (says.Row c.in-Row.row) is
    (c.in_ok-show-in-Query.ensures.stands kept before) c.show.new.text.items
    (c.in_ok-show-in-Query.ensures.told kept before
    ∙ ap (λ (w : Work). text ++ shown_for under kept c.in-Row.row w) (sym c.in-Query.is)
    ∙ shown_plain under kept c.args.line.now text (says.Row c.in-Row.row) is refl refl refl)

pub returns-in_ok-show-in-Query-clause-came : goal.returns-in_ok-show-in-Query-clause-came
unfolding came_shown
returns-in_ok-show-in-Query-clause-came c = λ kept stands. ap came_to (sym (sym (c.in_ok-said.ensures.said kept stands).said ∙ c.in-Row.is))
