use Rattle.std.proofs.Common.{◌≡◌, ◌++◌, ℕ, List, append_assoc, subst}
use Rattle.std.specs.Prelude.{OnOk}
use Rattle.std.specs.List.{flat_map}
use Rattle.std.specs.Str.Lines.{lines}
use Rattle.report_memo.specs.Page.{line_shown, page_content}
use Rattle.report_memo.proofs.page.push_content.Goals as goal

-- the title, the head and then the lines
pub returns : goal.returns
unfolding page_content
returns c =
    let added : c.text_in-2.new.self ++ flat_map line_shown (lines c.args.body.now) ≡ c.args.page.now ++ page_content c.args.head.now c.args.body.now =
    rw (c.in_ok-text_in-2.ensures, c.in_ok-text_in.ensures) (simp append_assoc) in
    subst (λ (text : List ℕ). OnOk c.push_body.result (c.push_body.new.page ≡ text)) added c.push_body.ensures
