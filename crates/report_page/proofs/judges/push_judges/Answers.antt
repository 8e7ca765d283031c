use Rattle.std.proofs.Common.{◌≡◌, ◌++◌, ℕ, List, append_assoc, subst}
use Rattle.std.specs.Prelude.{OnOk}
use Rattle.page_markup.specs.declared.tag.Tag.TheVariants as tag
use Rattle.page_markup.specs.Words.{closing}
use Rattle.report_page.specs.Judges.{judges_part}
use Rattle.report_page.proofs.judges.push_judges.Goals as goal

pub returns : goal.returns
unfolding judges_part
returns c =
    let added : c.push_parts.new.page ++ closing tag.Section ≡ c.args.page.now ++ judges_part c.args.court.now c.args.labels.now c.args.calendars.now =
    rw (c.in_ok-push_parts.ensures, c.in_ok-text_in.ensures, c.in_ok-open.ensures) (simp append_assoc) in
    subst (λ (text : List ℕ). OnOk c.close.result (c.close.new.self ≡ text)) added c.close.ensures
