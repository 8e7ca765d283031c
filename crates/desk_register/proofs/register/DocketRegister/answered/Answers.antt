use Rattle.std.proofs.Common.{◌∙◌, ℕ, ap}
use Rattle.desk_numbers.specs.Words.{NumbersView, given_by, numbered}
use Rattle.case_numbers.specs.Words.{CasesView}
use Rattle.office_texts.specs.Named.Words.{named_line_of}
use Rattle.office_texts.specs.declared.run.reply.Reply.{Reply}
use Rattle.desk_register.specs.Cases.{cases_of}
use Rattle.desk_register.specs.Entries.{next_number}
use Rattle.desk_register.specs.Rows.{answer_to, outcome_by}
use Rattle.desk_register.specs.Run.{numbers_with, run_by}
use Rattle.desk_register.proofs.RegisterLemmas.{numbers_taken}
use Rattle.desk_register.proofs.register.DocketRegister.answered.Goals as goal

pub returns-clause-numbers : goal.returns-clause-numbers
returns-clause-numbers c = λ kept stands.
    numbers_taken c.args.under.now kept c.args.row.now.work _ c.replied.new.self.numbers c.take.new.self c.replied.new.self.number c.given_by-given.result c.in_ok-take.ensures c.kept.ensures
    (c.replied.ensures.numbers ∙ stands.numbers) (c.replied.ensures.number ∙ stands.number) (c.given_by-given.ensures ∙ ap (given_by c.args.row.now.work) (c.in_ok-reply.ensures.reply kept stands))

pub returns-clause-came : goal.returns-clause-came
returns-clause-came c = λ kept stands. c.outcome_of-outcome.ensures ∙ ap outcome_by (c.in_ok-reply.ensures.reply kept stands)

pub returns-clause-answer : goal.returns-clause-answer
unfolding answer_to
returns-clause-answer c = λ kept stands.
    let under = c.args.under.now in
    let row = c.args.row.now in
    let reply = c.in_ok-reply.reply in
    let numbers = numbers_with under (run_by under kept) (next_number kept) row.work in
    let taken = numbers_taken under kept c.args.row.now.work _ c.replied.new.self.numbers c.take.new.self c.replied.new.self.number c.given_by-given.result c.in_ok-take.ensures c.kept.ensures
    (c.replied.ensures.numbers ∙ stands.numbers) (c.replied.ensures.number ∙ stands.number) (c.given_by-given.ensures ∙ ap (given_by c.args.row.now.work) (c.in_ok-reply.ensures.reply kept stands)) in
    c.in_ok-answer.ensures
    ∙ ap (λ (k : CasesView). named_line_of under.court k.named c.replied.new.self.number row.clerk (numbered c.take.new.self.moved row.work reply)) (c.replied.ensures.cases ∙ stands.cases)
    ∙ ap (λ (n : ℕ). named_line_of under.court (cases_of under kept).named n row.clerk (numbered c.take.new.self.moved row.work reply)) (c.replied.ensures.number ∙ stands.number)
    ∙ ap (λ (n : NumbersView). named_line_of under.court (cases_of under kept).named (next_number kept) row.clerk (numbered n.moved row.work reply)) taken
    ∙ ap (λ (r : Reply). named_line_of under.court (cases_of under kept).named (next_number kept) row.clerk (numbered numbers.moved row.work r)) (c.in_ok-reply.ensures.reply kept stands)
