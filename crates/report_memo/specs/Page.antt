-- A memo as a page for print: its head, and below it each line in an element of its own.
use Rattle.std.specs.Prelude.{ℕ, ◌||◌, Bool, true, false, List, ◌++◌, codes, nat_eq, if◌then◌else◌}
use Rattle.std.specs.List.{flat_map, starts_with}
use Rattle.std.specs.Str.Lines.{lines}
use Rattle.page_markup.specs.declared.tag.Tag.{Tag}
use Rattle.page_markup.specs.declared.tag.Tag.TheVariants as tag
use Rattle.page_markup.specs.Words.{IsMarkup, page_with, text_in}

-- A line of reasons stays in its columns. A case and a judge begin a part, a deadline and a motion a part of that; any other line is
-- a paragraph.
abbrev pub line_tag : (line : List ℕ) → Tag
line_tag line =
    if starts_with nat_eq line (codes "  ") then tag.Reasons
    else if starts_with nat_eq line (codes "case ") || starts_with nat_eq line (codes "judge ") then tag.Heading2
    else if starts_with nat_eq line (codes "deadline ") || starts_with nat_eq line (codes "motion ") then tag.Heading3
    else tag.Paragraph

-- a line in its element
unfoldable pub line_shown : (line : List ℕ) → List ℕ
line_shown line = text_in (line_tag line) line

-- what the page shows: the head as it is, and the lines below it
unfoldable pub page_content : (head body : List ℕ) → List ℕ
page_content head body = text_in tag.Heading1 (codes "Deadlines, and why") ++ text_in tag.Reasons head ++ flat_map line_shown (lines body)

-- the page
unfoldable pub page_text : (head body : List ℕ) → List ℕ
page_text head body = page_with (codes "Deadlines, and why") (page_content head body)

-- a head and what is below it as they are, or as a page
abbrev pub shown_as : (html : Bool) → (head body : List ℕ) → List ℕ
shown_as false head body = head ++ body
shown_as true head body = page_text head body

-- what a page shows is made of elements and escaped texts alone, whatever the names in it are
abbrev pub PageIsMarkup : Type 0
PageIsMarkup = (head body : List ℕ) → IsMarkup (page_content head body)
