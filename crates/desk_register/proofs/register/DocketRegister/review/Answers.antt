use Rattle.std.proofs.Common.{◌≡◌, ◌∙◌, ◌<◌, ◌++◌, ℕ, List, [], ◌∷◌, ap, length, sym, refl, arith}
use Rattle.std.specs.Prelude.{Vec}
use Rattle.std.specs.declared.alloc.Global.{Global}
use Rattle.std.proofs.lemmas.Bool.{false≢true}
use Rattle.std.proofs.lemmas.Slice.Eq.{bytes_eq-Decides}
use Rattle.csv.specs.Records.{fields_of}
use Rattle.row_forms.specs.declared.line.line.Line.TheVariants as says
use Rattle.row_forms.specs.Words.{names_of}
use Rattle.row_forms.specs.Line.Words.{fields_read, line_read}
use Rattle.desk_register.specs.Cases.{cases_of, opened_as, with_opened}
use Rattle.desk_register.specs.Rows.{row_in}
use Rattle.desk_numbers.specs.Strikes.Words.{is_struck}
use Rattle.desk_register.specs.declared.cause.LineCause.TheVariants.{Row as RowFault}
use Rattle.desk_register.specs.Entries.{most_clerks, most_entries, next_number}
use Rattle.desk_register.specs.LineCauses.{fault_told}
use Rattle.desk_register.proofs.RegisterLemmas.{answers_as, as_it_was, leaves_made, not_as, stands_passed, stands_row}
use Rattle.desk_register.proofs.register.DocketRegister.review.Goals as goal

pub returns-then-eq-clause-other : goal.returns-then-eq-clause-other
returns-then-eq-clause-other c = λ kept stands.
    let before = as_it_was c.args.under.now c.args.self.now c.said.new.self kept stands c.said.ensures.docket c.said.ensures.numbers c.said.ensures.cases c.said.ensures.called c.said.ensures.number c.said.ensures.count in
    let left = leaves_made c.args.under.now c.done.new.self kept c.args.entry.now c.in-Row.row (sym (c.in_ok-row.ensures.said ∙ ap (λ (t : List ℕ). line_read most_clerks (names_of c.args.under.now.court) t) c.after_name.ensures) ∙ c.in-Row.is) (fields_of c.said.new.self.fields) (c.in_ok-row.ensures.fields c.in-Row.row c.in-Row.is ∙ ap fields_read c.after_name.ensures) c.in_ok-name.name c.in_ok-name.ensures
    _ (c.in_ok-answer-in-Row.ensures.done kept before) in
    left ∙ ap (λ (e : List ℕ). e ∷ []) (sym c.as_slice.ensures.value ∙ (bytes_eq-Decides c.as_slice.result.now c.args.entry.now).0 (sym c.eq.ensures ∙ c.if-eq.true))

pub returns-then-eq-clause-stands : goal.returns-then-eq-clause-stands
returns-then-eq-clause-stands c = λ kept stands none.
    let before = as_it_was c.args.under.now c.args.self.now c.said.new.self kept stands c.said.ensures.docket c.said.ensures.numbers c.said.ensures.cases c.said.ensures.called c.said.ensures.number c.said.ensures.count in
    let done = c.in_ok-answer-in-Row.ensures.done kept before in
    let said = sym (c.in_ok-row.ensures.said ∙ ap (λ (t : List ℕ). line_read most_clerks (names_of c.args.under.now.court) t) c.after_name.ensures) ∙ c.in-Row.is in
    let room : length kept < most_entries = omega (arith, c.requires.room, stands.count) in
    stands_row c.args.under.now c.done.new.self kept c.args.entry.now c.in-Row.row stands.begun room none (sym (ap (is_struck c.args.under.now.corrections) stands.number) ∙ c.requires.stays) said done.docket done.numbers (done.cases ∙ ap (with_opened (cases_of c.args.under.now kept) (opened_as c.in-Row.row.work)) c.in_ok-name.ensures)
    (fields_of c.said.new.self.fields) (c.in_ok-row.ensures.fields c.in-Row.row c.in-Row.is ∙ ap fields_read c.after_name.ensures) done.called done.number done.count

pub returns-else-eq-clause-other : goal.returns-else-eq-clause-other
returns-else-eq-clause-other c = λ kept stands.
    let before = as_it_was c.args.under.now c.args.self.now c.said.new.self kept stands c.said.ensures.docket c.said.ensures.numbers c.said.ensures.cases c.said.ensures.called c.said.ensures.number c.said.ensures.count in
    let is = sym (c.in_ok-row.ensures.said ∙ ap (λ (t : List ℕ). line_read most_clerks (names_of c.args.under.now.court) t) c.after_name.ensures) ∙ c.in-Row.is in
    let done = c.in_ok-answer-in-Row.ensures.done kept before in
    let left = leaves_made c.args.under.now c.done.new.self kept c.args.entry.now c.in-Row.row is (fields_of c.said.new.self.fields) (c.in_ok-row.ensures.fields c.in-Row.row c.in-Row.is ∙ ap fields_read c.after_name.ensures) c.in_ok-name.name c.in_ok-name.ensures
    _ done in
    record {
      other = λ may.
          let again : c.in_ok-answer-in-Row.field-0.entry.items ≡ c.args.entry.now = cc (sym left ∙ may) in
          false≢true (sym c.if-eq.false ∙ (c.eq.ensures ∙ (bytes_eq-Decides c.as_slice.result.now c.args.entry.now).1 (c.as_slice.ensures.value ∙ again)));
      answer_is = ap (λ (v : Vec ℕ Global). v.items) c.into_bytes.ensures.value ∙ done.answer ∙ sym (answers_as c.args.under.now c.done.new.self kept c.args.entry.now (says.Row c.in-Row.row) is);
    }

pub returns-else-eq-clause-stands : goal.returns-else-eq-clause-stands
returns-else-eq-clause-stands c = λ kept stands none.
    let before = as_it_was c.args.under.now c.args.self.now c.said.new.self kept stands c.said.ensures.docket c.said.ensures.numbers c.said.ensures.cases c.said.ensures.called c.said.ensures.number c.said.ensures.count in
    let done = c.in_ok-answer-in-Row.ensures.done kept before in
    let said = sym (c.in_ok-row.ensures.said ∙ ap (λ (t : List ℕ). line_read most_clerks (names_of c.args.under.now.court) t) c.after_name.ensures) ∙ c.in-Row.is in
    let room : length kept < most_entries = omega (arith, c.requires.room, stands.count) in
    stands_row c.args.under.now c.done.new.self kept c.args.entry.now c.in-Row.row stands.begun room none (sym (ap (is_struck c.args.under.now.corrections) stands.number) ∙ c.requires.stays) said done.docket done.numbers (done.cases ∙ ap (with_opened (cases_of c.args.under.now kept) (opened_as c.in-Row.row.work)) c.in_ok-name.ensures)
    (fields_of c.said.new.self.fields) (c.in_ok-row.ensures.fields c.in-Row.row c.in-Row.is ∙ ap fields_read c.after_name.ensures) done.called done.number done.count

pub returns-in_ok-pass_row-in-Fault-clause-other : goal.returns-in_ok-pass_row-in-Fault-clause-other
returns-in_ok-pass_row-in-Fault-clause-other c = λ kept stands.
    let is = sym (c.in_ok-row.ensures.said ∙ ap (λ (t : List ℕ). line_read most_clerks (names_of c.args.under.now.court) t) c.after_name.ensures) ∙ c.in-Fault.is in
    record {
      other = not_as c.args.under.now c.pass_row.new.self kept c.args.entry.now (says.Fault c.in-Fault.cause) is refl;
      answer_is = c.in_ok-push_cause-in-Fault.ensures ∙ ap (λ (l : List ℕ). l ++ fault_told c.said.new.self.number c.after_name-in-Fault.result.now (RowFault c.in-Fault.cause)) c.new-answer.ensures.items
          ∙ ap (λ (n : ℕ). fault_told n c.after_name-in-Fault.result.now (RowFault c.in-Fault.cause)) (c.said.ensures.number ∙ stands.number)
          ∙ ap (λ (l : List ℕ). fault_told (next_number kept) l (RowFault c.in-Fault.cause)) c.after_name-in-Fault.ensures
          ∙ sym (answers_as c.args.under.now c.pass_row.new.self kept c.args.entry.now (says.Fault c.in-Fault.cause) is);
    }

pub returns-in_ok-pass_row-in-Fault-clause-stands : goal.returns-in_ok-pass_row-in-Fault-clause-stands
returns-in_ok-pass_row-in-Fault-clause-stands c = λ kept stands none.
    let is = sym (c.in_ok-row.ensures.said ∙ ap (λ (t : List ℕ). line_read most_clerks (names_of c.args.under.now.court) t) c.after_name.ensures) ∙ c.in-Fault.is in
    let before = as_it_was c.args.under.now c.args.self.now c.said.new.self kept stands c.said.ensures.docket c.said.ensures.numbers c.said.ensures.cases c.said.ensures.called c.said.ensures.number c.said.ensures.count in
    let room : c.said.new.self.count < most_entries = omega (arith, c.requires.room, c.said.ensures.count) in
    stands_passed c.args.under.now c.said.new.self c.pass_row.new.self kept c.args.entry.now before room none
    (ap row_in is)
    c.pass_row.ensures.docket c.in_ok-pass_row-in-Fault.ensures.numbers c.pass_row.ensures.cases c.pass_row.ensures.called c.in_ok-pass_row-in-Fault.ensures.number c.in_ok-pass_row-in-Fault.ensures.count

pub returns-in_ok-pass_row-in-Blank-clause-other : goal.returns-in_ok-pass_row-in-Blank-clause-other
returns-in_ok-pass_row-in-Blank-clause-other c = λ kept stands.
    let is = sym (c.in_ok-row.ensures.said ∙ ap (λ (t : List ℕ). line_read most_clerks (names_of c.args.under.now.court) t) c.after_name.ensures) ∙ c.in-Blank.is in
    record {
      other = not_as c.args.under.now c.said.new.self kept c.args.entry.now says.Blank is refl;
      answer_is = c.new.ensures.items ∙ sym (answers_as c.args.under.now c.said.new.self kept c.args.entry.now says.Blank is);
    }

pub returns-in_ok-pass_row-in-Blank-clause-stands : goal.returns-in_ok-pass_row-in-Blank-clause-stands
returns-in_ok-pass_row-in-Blank-clause-stands c = λ kept stands none.
    let is = sym (c.in_ok-row.ensures.said ∙ ap (λ (t : List ℕ). line_read most_clerks (names_of c.args.under.now.court) t) c.after_name.ensures) ∙ c.in-Blank.is in
    let before = as_it_was c.args.under.now c.args.self.now c.said.new.self kept stands c.said.ensures.docket c.said.ensures.numbers c.said.ensures.cases c.said.ensures.called c.said.ensures.number c.said.ensures.count in
    let room : c.said.new.self.count < most_entries = omega (arith, c.requires.room, c.said.ensures.count) in
    stands_passed c.args.under.now c.said.new.self c.pass_row-in-Blank.new.self kept c.args.entry.now before room none
    (ap row_in is)
    c.pass_row-in-Blank.ensures.docket c.in_ok-pass_row-in-Blank.ensures.numbers c.pass_row-in-Blank.ensures.cases c.pass_row-in-Blank.ensures.called c.in_ok-pass_row-in-Blank.ensures.number c.in_ok-pass_row-in-Blank.ensures.count
