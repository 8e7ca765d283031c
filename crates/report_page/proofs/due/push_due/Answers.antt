use Rattle.std.proofs.Common.{◌≡◌, ◌∙◌, ◌++◌, ℕ, List, ap, append_assoc, subst}
use Rattle.std.specs.Prelude.{OnOk}
use Rattle.page_markup.specs.declared.tag.Tag.TheVariants as tag
use Rattle.page_markup.specs.Words.{closing}
use Rattle.report_texts.specs.Words.{closing_line}
use Rattle.report_page.specs.Due.{due_part}
use Rattle.report_page.proofs.due.push_due.Goals as goal

pub returns : goal.returns
unfolding due_part
returns c =
    let said : c.deref.result.now ≡ closing_line c.args.court.now = c.deref.ensures ∙ c.in_ok-push_closing.ensures ∙ ap (λ (front : List ℕ). front ++ closing_line c.args.court.now) c.clear.ensures.bytes in
    let added : c.push_table.new.page ++ closing tag.Section ≡ c.args.page.now ++ due_part c.args.court.now c.args.labels.now c.args.items.now =
    rw (c.in_ok-push_table.ensures, c.in_ok-text_in-2.ensures, said, c.in_ok-text_in.ensures, c.in_ok-open.ensures) (simp append_assoc) in
    subst (λ (text : List ℕ). OnOk c.close.result (c.close.new.self ≡ text)) added c.close.ensures
