-- What rows are answered, as lines of JSON.
use Rattle.std.specs.Prelude.{◌≡◌, ℕ, List, [], ◌∷◌, ◌++◌, Some, All}
use Rattle.std.specs.List.{flat_map}
use Rattle.std.specs.Str.{IsUtf8}
use Rattle.json.specs.Json.{Json, document}
use Rattle.json.specs.Print.{print}
use Rattle.json.specs.Tree.{json_tokens}
use Rattle.court_days.specs.Words.{CourtView}
use Rattle.docket_rows.specs.Words.{opening_rows, setup_of}
use Rattle.row_forms.specs.declared.numbered.NumberedRow.{NumberedRow}
use Rattle.report_texts.specs.Words.{LabelsView}
use Rattle.report_json.specs.Document.{answers_from}

-- a value as a line of JSON, without spaces
abbrev pub line_of : Json → List ℕ
line_of value = print (json_tokens value) ++ 10 ∷ []

-- what is written of the value is UTF-8, and reads as the value
pub record ReadsBack (value : Json) : Type 0 where
  pub reads : document (print (json_tokens value)) ≡ Some value
  pub utf8 : IsUtf8 (print (json_tokens value))

-- what each row is answered, from the first on
abbrev pub answers_of : CourtView → LabelsView → List NumberedRow → List Json
answers_of court labels rows = answers_from court labels (opening_rows (setup_of court)) rows

-- the text has a line for each row, in their order, and each line reads as what the row is answered
pub record AreAnswerLines (court : CourtView) (labels : LabelsView) (rows : List NumberedRow) (text : List ℕ) : Type 0 where
  pub lines : text ≡ flat_map line_of (answers_of court labels rows)
  pub read : All ReadsBack (answers_of court labels rows)
