use Rattle.std.proofs.Common.{◌≡◌, ◌∙◌, ◌+◌, ℕ, true, false, ap, refl, sym}
use Rattle.std.specs.Prelude.{nat_lt}
use Rattle.std.proofs.lemmas.Result.{on_ok_weaker}
use Rattle.case_numbers.specs.Words.{CasesView}
use Rattle.row_forms.specs.Words.{names_of}
use Rattle.desk_register.specs.Subjects.{read_apart}
use Rattle.row_forms.specs.declared.line.line.Line.TheVariants as says
use Rattle.desk_register.specs.Entries.{most_rows}
use Rattle.desk_register.specs.LineFaults.{read_before}
use Rattle.desk_register.specs.Rows.{has_room}
use Rattle.desk_register.proofs.EntryLemmas.{plain_full, plain_none}
use Rattle.desk_register.proofs.LineFaultLemmas.{counts_more, counts_same, said_at}
use Rattle.desk_register.proofs.line_faults.Reading.read.Goals as goal

pub returns-in-Blank-clause-counts : goal.returns-in-Blank-clause-counts
returns-in-Blank-clause-counts c = λ kept counts.
    let is = sym (said_at c.args.under.now kept c.args.line.now c.args.self.now.cases c.in_ok-said.said counts.cases_are c.in_ok-said.ensures.said) ∙ sym (c.within.ensures.said kept counts.count_is) ∙ c.in-Blank.is in
    counts_same c.args.under.now kept c.args.line.now c.args.self.now.count c.args.self.now.cases (plain_none c.args.under.now kept (read_before c.args.under.now kept c.args.line.now).text says.Blank is refl) counts

pub returns-in_ok-too_many-in-Fault-clause-counts : goal.returns-in_ok-too_many-in-Fault-clause-counts
returns-in_ok-too_many-in-Fault-clause-counts c = λ kept counts.
    let is = sym (said_at c.args.under.now kept c.args.line.now c.args.self.now.cases c.in_ok-said.said counts.cases_are c.in_ok-said.ensures.said) ∙ sym (c.within.ensures.said kept counts.count_is) ∙ c.in-Fault.is in
    on_ok_weaker c.note.result
    (λ noted. rw (c.note.ensures.count, c.note.ensures.cases) (counts_same c.args.under.now kept c.args.line.now c.args.self.now.count c.args.self.now.cases (plain_none c.args.under.now kept (read_before c.args.under.now kept c.args.line.now).text (says.Fault c.in-Fault.cause) is refl) counts))
    c.note.ensures.faults

pub returns-then-not-has_room-clause-counts : goal.returns-then-not-has_room-clause-counts
returns-then-not-has_room-clause-counts c = λ kept counts.
    let full : has_room kept ≡ false = ap (λ (n : ℕ). nat_lt n most_rows) (sym counts.count_is) ∙ sym c.has_room.ensures ∙ c.if-not-has_room.true in
    counts_same c.args.under.now kept c.args.line.now c.args.self.now.count c.args.self.now.cases (plain_full c.args.under.now kept (read_before c.args.under.now kept c.args.line.now).text full) counts

pub returns-else-not-has_room-clause-counts : goal.returns-else-not-has_room-clause-counts
returns-else-not-has_room-clause-counts c = λ kept counts.
    let is = sym (said_at c.args.under.now kept c.args.line.now c.args.self.now.cases c.in_ok-said.said counts.cases_are c.in_ok-said.ensures.said) ∙ sym (c.within.ensures.said kept counts.count_is) ∙ c.in-Row.is in
    let room : has_room kept ≡ true = ap (λ (n : ℕ). nat_lt n most_rows) (sym counts.count_is) ∙ sym c.has_room.ensures ∙ c.if-not-has_room.false in
    let name = c.in_ok-said.ensures.name ∙ ap (λ (k : CasesView). (read_apart (names_of c.args.under.now.court) k c.args.line.now).name) counts.cases_are in
    on_ok_weaker c.note_case.result
    (λ opened. counts_more c.args.under.now kept c.args.line.now c.in-Row.row c.args.self.now.count (c.args.self.now.count + 1) c.args.self.now.cases c.note_case.new.cases is room counts refl c.in_ok-said.name name opened)
    c.note_case.ensures
