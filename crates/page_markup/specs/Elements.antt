-- The elements of a page: a tag before and a tag after what is inside.
use Rattle.std.specs.Prelude.{ℕ, List, [], ◌∷◌, ◌++◌, codes}
use Rattle.std.specs.Fmt.{decimal}
use Rattle.page_markup.specs.declared.tag.Tag.{Tag}
use Rattle.page_markup.specs.declared.tag.Tag.TheVariants as tag
use Rattle.page_markup.specs.Escaping.{escaped}

-- the name of an element
abbrev pub tag_name : Tag → List ℕ
tag_name tag.Page = codes "html"
tag_name tag.Head = codes "head"
tag_name tag.Title = codes "title"
tag_name tag.Style = codes "style"
tag_name tag.Body = codes "body"
tag_name tag.Main = codes "main"
tag_name tag.Heading1 = codes "h1"
tag_name tag.Heading2 = codes "h2"
tag_name tag.Heading3 = codes "h3"
tag_name tag.Paragraph = codes "p"
tag_name tag.Section = codes "section"
tag_name (tag.CaseSection case) = codes "section"
tag_name (tag.CaseLink case) = codes "a"
tag_name tag.Table = codes "table"
tag_name tag.Caption = codes "caption"
tag_name tag.TableHead = codes "thead"
tag_name tag.TableBody = codes "tbody"
tag_name tag.Row = codes "tr"
tag_name tag.ColumnHead = codes "th"
tag_name tag.DayHead = codes "th"
tag_name tag.WeekHead = codes "th"
tag_name tag.RowHead = codes "th"
tag_name tag.Cell = codes "td"
tag_name tag.LateCell = codes "td"
tag_name tag.Line = codes "div"
tag_name tag.Note = codes "div"
tag_name tag.WideCell = codes "td"
tag_name tag.Details = codes "details"
tag_name tag.Summary = codes "summary"
tag_name tag.Reasons = codes "div"
tag_name tag.Grid = codes "table"
tag_name tag.DateCell = codes "td"
tag_name tag.OutCell = codes "td"
tag_name tag.Block = codes "div"
tag_name tag.LoadHead = codes "th"
tag_name (tag.Bar percent) = codes "div"

-- what a tag says of its element: its language, which cells a head is of, its class, how wide it is, or the case that it is or leads to
abbrev pub attributes : Tag → List ℕ
attributes tag.Page = codes " lang=\"en\""
attributes (tag.CaseSection case) = codes " id=\"case-" ++ decimal case ++ codes "\""
attributes (tag.CaseLink case) = codes " href=\"#case-" ++ decimal case ++ codes "\""
attributes tag.ColumnHead = codes " scope=\"col\""
attributes tag.DayHead = codes " class=\"day\" scope=\"col\" colspan=\"3\""
attributes tag.WeekHead = codes " class=\"day\" scope=\"col\" colspan=\"4\""
attributes tag.RowHead = codes " scope=\"row\""
attributes tag.LateCell = codes " class=\"late\""
attributes tag.Note = codes " class=\"note\""
attributes tag.WideCell = codes " colspan=\"4\""
attributes tag.Reasons = codes " class=\"reasons\""
attributes tag.Grid = codes " class=\"grid\""
attributes tag.DateCell = codes " class=\"date\""
attributes tag.OutCell = codes " class=\"out\""
attributes tag.Block = codes " class=\"block\""
attributes tag.LoadHead = codes " class=\"load\" scope=\"row\""
attributes (tag.Bar percent) = codes " class=\"bar\" style=\"width: " ++ decimal percent ++ codes "%\""
attributes other = []

-- a line ends after an element that isn't inside a line
abbrev pub end_of_line : Tag → List ℕ
end_of_line (tag.CaseLink case) = []
end_of_line tag.ColumnHead = []
end_of_line tag.DayHead = []
end_of_line tag.WeekHead = []
end_of_line tag.RowHead = []
end_of_line tag.Cell = []
end_of_line tag.LateCell = []
end_of_line tag.Line = []
end_of_line tag.Note = []
end_of_line tag.WideCell = []
end_of_line tag.Summary = []
end_of_line tag.Reasons = []
end_of_line tag.DateCell = []
end_of_line tag.OutCell = []
end_of_line tag.Block = []
end_of_line tag.LoadHead = []
end_of_line (tag.Bar percent) = []
end_of_line other = 10 ∷ []

-- `<td>`
unfoldable pub opening : Tag → List ℕ
opening tag = codes "<" ++ tag_name tag ++ attributes tag ++ codes ">"

-- `</td>`
unfoldable pub closing : Tag → List ℕ
closing tag = codes "</" ++ tag_name tag ++ codes ">" ++ end_of_line tag

-- an element with what is inside: `<td>..</td>`
abbrev pub element : Tag → (inside : List ℕ) → List ℕ
element tag inside = opening tag ++ inside ++ closing tag

-- an element with a text inside, which is escaped
unfoldable pub text_in : Tag → (text : List ℕ) → List ℕ
text_in tag text = element tag (escaped text)

-- What is made of elements and escaped texts alone: so each tag is one of those above, each is closed in its place, and what
-- is between tags is escaped.
pub data IsMarkup : List ℕ → Type 0 where
  nothing : IsMarkup []
  text : (t : List ℕ) → IsMarkup (escaped t)
  inside : (t : Tag) (content : List ℕ) → IsMarkup content → IsMarkup (element t content)
  after : (first second : List ℕ) → IsMarkup first → IsMarkup second → IsMarkup (first ++ second)
