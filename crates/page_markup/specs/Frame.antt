-- What is the same in all pages: how a page begins and ends. The literal parts are the constants of the code.
use Rattle.std.specs.Prelude.{ℕ, List, ◌++◌}
use Rattle.page_markup.specs.declared.tag.Tag.TheVariants as tag
use Rattle.page_markup.specs.declared.frame.TheConstants.{CHARSET, DOCTYPE, POLICY, VIEWPORT}
use Rattle.page_markup.specs.declared.style.TheConstants.{STYLE}
use Rattle.page_markup.specs.Elements.{closing, element, opening, text_in}

-- how the page is read
unfoldable pub settings : List ℕ
settings = CHARSET.now ++ POLICY.now ++ VIEWPORT.now

-- how it looks
unfoldable pub style : List ℕ
style = element tag.Style STYLE.now

-- what is said of the page
unfoldable pub head : (title : List ℕ) → List ℕ
head title = element tag.Head (settings ++ style ++ text_in tag.Title title)

-- what comes before what a page shows, and after it
unfoldable pub before_content : (title : List ℕ) → List ℕ
before_content title = DOCTYPE.now ++ opening tag.Page ++ head title ++ opening tag.Body ++ opening tag.Main

unfoldable pub after_content : List ℕ
after_content = closing tag.Main ++ closing tag.Body ++ closing tag.Page

-- a page with that title, which shows that
abbrev pub page_with : (title content : List ℕ) → List ℕ
page_with title content = before_content title ++ content ++ after_content
