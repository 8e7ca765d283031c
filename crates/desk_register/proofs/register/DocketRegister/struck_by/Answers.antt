use Rattle.std.proofs.Common.{◌∙◌, ℕ, List, ap, sym}
use Rattle.desk_journal.specs.Words.{batch_of}
use Rattle.case_numbers.specs.Words.{after_name}
use Rattle.row_forms.specs.Words.{names_of}
use Rattle.row_forms.specs.Line.Words.{line_read}
use Rattle.std.proofs.lemmas.Result.{IfOk-weaker}
use Rattle.desk_register.specs.Entries.{most_clerks}
use Rattle.desk_register.specs.Striking.{strike_said}
use Rattle.desk_register.proofs.StrikingLemmas.{no_such_row, row_found, row_struck_already}
use Rattle.desk_register.proofs.register.DocketRegister.struck_by.Goals as goal

pub returns-then-not-has_row : goal.returns-then-not-has_row
returns-then-not-has_row c = λ is.
    let none = sym (c.has_row.ensures c.args.under.now (batch_of c.args.entries.now) is) ∙ c.if-not-has_row.true in
    no_such_row c.args.under.now (batch_of c.args.entries.now) c.args.row none

pub returns-then-is_struck : goal.returns-then-is_struck
returns-then-is_struck c = λ is.
    let there = sym (c.has_row.ensures c.args.under.now (batch_of c.args.entries.now) is) ∙ c.if-not-has_row.false in
    row_struck_already c.args.under.now (batch_of c.args.entries.now) c.args.row there (sym c.is_struck.ensures ∙ c.if-is_struck.true)

pub returns : goal.returns
returns c = λ is.
    let there = sym (c.has_row.ensures c.args.under.now (batch_of c.args.entries.now) is) ∙ c.if-not-has_row.false in
    IfOk-weaker c.strike_read.result _ _
    (λ strike made. made
    ∙ ap (λ (e : List ℕ). strike_said c.args.row (line_read most_clerks (names_of c.args.under.now.court) (after_name e))) c.entry_at.ensures
    ∙ row_found c.args.under.now (batch_of c.args.entries.now) c.args.row there (sym c.is_struck.ensures ∙ c.if-is_struck.false))
    c.strike_read.ensures
