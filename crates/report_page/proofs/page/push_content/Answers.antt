use Rattle.std.proofs.Common.{◌≡◌, ◌∙◌, ◌++◌, ℕ, List, ap, append_assoc, subst}
use Rattle.std.specs.Prelude.{OnOk}
use Rattle.report_texts.specs.Words.{chosen_words}
use Rattle.report_page.specs.Cases.{cases_part}
use Rattle.report_page.specs.Page.{content}
use Rattle.report_page.proofs.page.push_content.Goals as goal

pub returns : goal.returns
unfolding content
returns c =
    let court = c.args.court.now in
    let labels = c.args.labels.now in
    let said : c.deref.result.now ≡ chosen_words court labels.cases c.args.choice.now = c.deref.ensures ∙ c.in_ok-push_chosen.ensures ∙ ap (λ (front : List ℕ). front ++ chosen_words court labels.cases c.args.choice.now) c.clear.ensures.bytes in
    let added : c.push_judges.new.page ++ cases_part court c.args.days.now labels c.args.sheets.now ≡ c.args.page.now ++ content court c.args.days.now labels c.args.choice.now c.args.items.now c.args.calendars.now c.args.sheets.now =
    rw (c.in_ok-push_judges.ensures, c.in_ok-push_due.ensures, c.in_ok-text_in-2.ensures, said, c.in_ok-text_in.ensures) (simp append_assoc) in
    subst (λ (text : List ℕ). OnOk c.push_cases.result (c.push_cases.new.page ≡ text)) added c.push_cases.ensures
