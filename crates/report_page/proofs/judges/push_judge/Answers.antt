use Rattle.std.proofs.Common.{◌≡◌, ◌∙◌, ◌++◌, ℕ, List, append_assoc, subst}
use Rattle.std.specs.Prelude.{OnOk}
use Rattle.page_markup.specs.declared.tag.Tag.TheVariants as tag
use Rattle.page_markup.specs.Words.{closing}
use Rattle.report_page.specs.Judges.{judge_caption, judge_part, judge_title}
use Rattle.report_page.proofs.judges.push_judge.Goals as goal

pub returns : goal.returns
unfolding judge_part
returns c =
    let court = c.args.court.now in
    let title : c.deref.result.now ≡ judge_title court c.args.calendar.now.judge = c.deref.ensures ∙ c.in_ok-set_title.ensures in
    let caption : c.deref-2.result.now ≡ judge_caption court c.args.calendar.now.judge = c.deref-2.ensures ∙ c.in_ok-set_caption.ensures in
    let added : c.close-2.new.self ++ closing tag.Section ≡ c.args.page.now ++ judge_part court c.args.labels.now c.args.calendar.now =
    rw (c.in_ok-close-2.ensures, c.in_ok-close.ensures, c.in_ok-push_rows.ensures, c.as_slice.ensures, c.in_ok-open-3.ensures, c.in_ok-push_heads.ensures, c.in_ok-text_in-2.ensures, caption, c.in_ok-open-2.ensures, c.in_ok-push_months.ensures, c.in_ok-text_in.ensures, title, c.in_ok-open.ensures) (simp append_assoc) in
    subst (λ (text : List ℕ). OnOk c.close-3.result (c.close-3.new.self ≡ text)) added c.close-3.ensures
