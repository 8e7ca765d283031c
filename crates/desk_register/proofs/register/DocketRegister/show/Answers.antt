use Rattle.std.proofs.Common.{◌≡◌, ◌∙◌, ◌++◌, ℕ, List, sym, ap}
use Rattle.std.specs.Prelude.{string_bytes}
use Rattle.case_numbers.specs.Words.{CasesView}
use Rattle.desk_numbers.specs.Words.{NumbersView, numbered}
use Rattle.office_texts.specs.Named.Words.{named_line_of}
use Rattle.office_texts.specs.declared.run.reply.Reply.{Reply}
use Rattle.desk_register.specs.Cases.{cases_of}
use Rattle.desk_register.specs.Entries.{next_number}
use Rattle.desk_register.specs.Rows.{answer_to}
use Rattle.desk_register.specs.Run.{numbers_with, run_by}
use Rattle.desk_register.proofs.QuestionLemmas.{question_moves_nothing, stands_asked}
use Rattle.desk_register.proofs.register.DocketRegister.show.Goals as goal

pub returns-clause-told : goal.returns-clause-told
unfolding answer_to
returns-clause-told c = λ kept stands.
    let under = c.args.under.now in
    let row = c.args.row.now in
    let reply = c.in_ok-reply.reply in
    let moved = question_moves_nothing under (run_by under kept) (next_number kept) row.work c.requires in
    let is : string_bytes c.in_ok-answer.answer ≡ answer_to under kept row =
    c.in_ok-answer.ensures
    ∙ ap (λ (k : CasesView). named_line_of under.court k.named c.replied.new.self.number row.clerk (numbered c.replied.new.self.numbers.moved row.work reply)) (c.replied.ensures.cases ∙ stands.cases)
    ∙ ap (λ (n : ℕ). named_line_of under.court (cases_of under kept).named n row.clerk (numbered c.replied.new.self.numbers.moved row.work reply)) (c.replied.ensures.number ∙ stands.number)
    ∙ ap (λ (n : NumbersView). named_line_of under.court (cases_of under kept).named (next_number kept) row.clerk (numbered n.moved row.work reply)) (c.replied.ensures.numbers ∙ stands.numbers)
    ∙ ap (λ m. named_line_of under.court (cases_of under kept).named (next_number kept) row.clerk (numbered m row.work reply)) (sym moved)
    ∙ ap (λ (r : Reply). named_line_of under.court (cases_of under kept).named (next_number kept) row.clerk (numbered (numbers_with under (run_by under kept) (next_number kept) row.work).moved row.work r)) (c.in_ok-reply.ensures.reply kept stands) in
    c.in_ok-extend_from_slice.ensures.items ∙ ap (λ (l : List ℕ). c.args.text.now.items ++ l) (c.as_bytes.ensures.value ∙ is)

pub returns-clause-stands : goal.returns-clause-stands
returns-clause-stands c = λ kept stands.
    stands_asked c.args.under.now c.args.self.now c.replied.new.self kept c.args.row.now.work stands c.requires (c.in_ok-reply.ensures.docket kept stands) c.replied.ensures.numbers c.replied.ensures.cases c.replied.ensures.called c.replied.ensures.number c.replied.ensures.count
