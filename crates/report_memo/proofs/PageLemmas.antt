-- What a page shows is made of elements and escaped texts alone.
use Rattle.std.proofs.Common.{ℕ, List}
use Rattle.std.specs.Str.Lines.{lines}
use Rattle.page_markup.specs.declared.tag.Tag.TheVariants as tag
use Rattle.page_markup.specs.Words.{IsMarkup}
use Rattle.page_markup.proofs.CallerLemmas.{both, each, words}
use Rattle.report_memo.specs.Page.{PageIsMarkup, line_shown, line_tag, page_content}

line_is : (line : List ℕ) → IsMarkup (line_shown line)
unfolding line_shown
line_is line = words (line_tag line) line

pub page_is_markup : PageIsMarkup
unfolding page_content
page_is_markup head body = both (both (words tag.Heading1 _) (words tag.Reasons head)) (each line_shown line_is (lines body))
