use Rattle.std.proofs.Common.{◌∙◌, ◌++◌, ℕ, Option, List, Vec, sym, ap, refl, append-nil}
use Rattle.std.specs.Prelude.{nat_lt}
use Rattle.std.specs.declared.alloc.Global.{Global}
use Rattle.std.proofs.lemmas.List.{map_push}
use Rattle.csv.specs.Records.{fields_of}
use Rattle.desk_journal.specs.Words.{batch_of}
use Rattle.row_forms.specs.declared.line.line.Line.TheVariants as says
use Rattle.desk_register.specs.declared.cause.LineCause.{LineCause}
use Rattle.desk_register.specs.Entries.{most_rows, next_number}
use Rattle.desk_register.specs.LineCauses.{fault_told}
use Rattle.desk_register.specs.Rows.{outcome, outcome_of, special_at, within}
use Rattle.desk_register.specs.Run.{docketed_by, run_by}
use Rattle.desk_register.proofs.QuestionLemmas.{question_taken}
use Rattle.desk_register.proofs.RegisterLemmas.{as_it_was, cause_told, not_special, nothing_left, question_left, row_left, told_with}
use Rattle.desk_register.proofs.register.DocketRegisterRegister.take.Goals as goal

pub returns-in-Blank-clause-taken : goal.returns-in-Blank-clause-taken
returns-in-Blank-clause-taken c = λ kept stands.
    let is = ap (within kept) (sym (c.in_ok-said.ensures.said kept stands.at).said) ∙ sym (c.within.ensures.said kept (c.heard.ensures.count ∙ stands.at.count)) ∙ c.in-Blank.is in
    nothing_left c.args.under.now c.heard.new.self kept c.args.line.now (batch_of c.args.batch.now.items) c.args.text.now.items says.Blank is refl
    (record { at = as_it_was c.args.under.now c.args.self.now c.heard.new.self kept stands.at c.heard.ensures.docket c.heard.ensures.numbers c.heard.ensures.cases c.heard.ensures.called c.heard.ensures.number c.heard.ensures.count; before = stands.before }) c.args.text.now.items
    (sym (append-nil c.args.text.now.items) ∙ ap (λ (b : Option LineCause). c.args.text.now.items ++ told_with c.args.under.now kept c.args.line.now b says.Blank) (sym (not_special c.args.under.now kept c.args.line.now says.Blank is refl refl refl)))

pub returns-in-Blank-clause-came : goal.returns-in-Blank-clause-came
unfolding outcome
returns-in-Blank-clause-came c = λ kept stands. ap (outcome_of c.args.under.now kept) (sym (ap (within kept) (sym (c.in_ok-said.ensures.said kept stands.at).said) ∙ sym (c.within.ensures.said kept (c.heard.ensures.count ∙ stands.at.count)) ∙ c.in-Blank.is))

pub returns-in_ok-push_cause-in-Fault-clause-taken : goal.returns-in_ok-push_cause-in-Fault-clause-taken
returns-in_ok-push_cause-in-Fault-clause-taken c = λ kept stands.
    let under = c.args.under.now in
    let line = c.args.line.now in
    let text = c.args.text.now.items in
    let before = as_it_was under c.args.self.now c.heard.new.self kept stands.at c.heard.ensures.docket c.heard.ensures.numbers c.heard.ensures.cases c.heard.ensures.called c.heard.ensures.number c.heard.ensures.count in
    nothing_left under c.heard.new.self kept line (batch_of c.args.batch.now.items) text (says.Fault c.in-Fault.cause) (ap (within kept) (sym (c.in_ok-said.ensures.said kept stands.at).said) ∙ sym (c.within.ensures.said kept (c.heard.ensures.count ∙ stands.at.count)) ∙ c.in-Fault.is) refl
    (record { at = before; before = stands.before }) c.push_cause.new.text.items
    (c.in_ok-push_cause-in-Fault.ensures
    ∙ ap (λ (n : ℕ). text ++ fault_told n line c.in_ok-cause-in-Fault.cause) (c.heard.ensures.number ∙ stands.at.number)
    ∙ ap (λ (cause : LineCause). text ++ fault_told (next_number kept) line cause) (c.in_ok-cause-in-Fault.ensures kept before)
    ∙ ap (λ (l : List ℕ). text ++ l) (cause_told under kept line (special_at under kept line) c.in-Fault.cause))

pub returns-in_ok-push_cause-in-Fault-clause-came : goal.returns-in_ok-push_cause-in-Fault-clause-came
unfolding outcome
returns-in_ok-push_cause-in-Fault-clause-came c = λ kept stands. ap (outcome_of c.args.under.now kept) (sym (ap (within kept) (sym (c.in_ok-said.ensures.said kept stands.at).said) ∙ sym (c.within.ensures.said kept (c.heard.ensures.count ∙ stands.at.count)) ∙ c.in-Fault.is))

pub returns-then-not-has_room-clause-taken : goal.returns-then-not-has_room-clause-taken
returns-then-not-has_room-clause-taken c = λ kept stands.
    let before = as_it_was c.args.under.now c.args.self.now c.heard.new.self kept stands.at c.heard.ensures.docket c.heard.ensures.numbers c.heard.ensures.cases c.heard.ensures.called c.heard.ensures.number c.heard.ensures.count in
    let count = c.heard.ensures.count ∙ stands.at.count in
    let none = sym c.has_room.ensures ∙ c.if-not-has_room.true in
    question_left c.args.under.now c.show.new.self kept c.args.line.now (batch_of c.args.batch.now.items) c.args.text.now.items c.in-Row.row
    (ap (within kept) (sym (c.in_ok-said.ensures.said kept stands.at).said) ∙ sym (c.within.ensures.said kept count) ∙ c.in-Row.is) (c.within.ensures.asks c.in-Row.row c.in-Row.is none) (ap (λ (n : ℕ). nat_lt n most_rows) (sym count) ∙ none)
    (record { at = c.in_ok-show-in-Row.ensures.stands kept before; before = stands.before }) c.show.new.text.items (c.in_ok-show-in-Row.ensures.told kept before)

pub returns-then-not-has_room-clause-came : goal.returns-then-not-has_room-clause-came
unfolding outcome
returns-then-not-has_room-clause-came c = λ kept stands.
    let under = c.args.under.now in
    let question = c.within.ensures.asks c.in-Row.row c.in-Row.is (sym c.has_room.ensures ∙ c.if-not-has_room.true) in
    sym (question_taken under (docketed_by under kept) (run_by under kept).numbers c.in-Row.row.work question)
    ∙ ap (outcome_of under kept) (sym (ap (within kept) (sym (c.in_ok-said.ensures.said kept stands.at).said) ∙ sym (c.within.ensures.said kept (c.heard.ensures.count ∙ stands.at.count)) ∙ c.in-Row.is))

pub returns-in_ok-push-in-Row-clause-taken : goal.returns-in_ok-push-in-Row-clause-taken
returns-in_ok-push-in-Row-clause-taken c = λ kept stands.
    let before = as_it_was c.args.under.now c.args.self.now c.heard.new.self kept stands.at c.heard.ensures.docket c.heard.ensures.numbers c.heard.ensures.cases c.heard.ensures.called c.heard.ensures.number c.heard.ensures.count in
    row_left c.args.under.now c.tell.new.self kept c.args.line.now (batch_of c.args.batch.now.items) c.args.text.now.items c.in-Row.row (ap (within kept) (sym (c.in_ok-said.ensures.said kept stands.at).said) ∙ sym (c.within.ensures.said kept (c.heard.ensures.count ∙ stands.at.count)) ∙ c.in-Row.is)
    (ap (λ (n : ℕ). nat_lt n most_rows) (sym (c.heard.ensures.count ∙ stands.at.count)) ∙ sym c.has_room.ensures ∙ c.if-not-has_room.false) stands.at.begun stands.before
    (fields_of c.heard.new.self.fields) ((c.in_ok-said.ensures.said kept stands.at).fields_are c.in-Row.row (c.within.ensures.row c.in-Row.row c.in-Row.is)) c.in_ok-said.name (c.in_ok-said.ensures.said kept stands.at).name _ (c.in_ok-entry-in-Row.ensures.done kept before)
    (batch_of c.push.new.self.items) c.tell.new.text.items
    (ap batch_of c.in_ok-push-in-Row.ensures.items ∙ map_push (λ (v : Vec ℕ Global). v.items) c.args.batch.now.items c.in_ok-entry-in-Row.field-0.entry)
    (c.in_ok-entry-in-Row.ensures.told kept before)

pub returns-in_ok-push-in-Row-clause-came : goal.returns-in_ok-push-in-Row-clause-came
unfolding outcome
returns-in_ok-push-in-Row-clause-came c = λ kept stands.
    let before = as_it_was c.args.under.now c.args.self.now c.heard.new.self kept stands.at c.heard.ensures.docket c.heard.ensures.numbers c.heard.ensures.cases c.heard.ensures.called c.heard.ensures.number c.heard.ensures.count in
    (c.in_ok-entry-in-Row.ensures.done kept before).came ∙ ap (outcome_of c.args.under.now kept) (sym (ap (within kept) (sym (c.in_ok-said.ensures.said kept stands.at).said) ∙ sym (c.within.ensures.said kept (c.heard.ensures.count ∙ stands.at.count)) ∙ c.in-Row.is))
