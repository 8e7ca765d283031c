-- The number of a case, and its name where it has one; and what rows call cases, deadlines and motions.
use Rattle.std.specs.Prelude.{ℕ, List, [], ◌∷◌, ◌++◌, Option, Some, None, codes}
use Rattle.json.specs.Json.{string}
use Rattle.case_numbers.specs.Words.{name_of}
use Rattle.case_numbers.specs.declared.names.NamedCase.{NamedCase}
use Rattle.desk_numbers.specs.Words.{title_of}
use Rattle.report_texts.specs.Words.{LabelsView}
use Rattle.report_json.specs.Values.{Field, amount, field}

-- the field of a name, if there is one
abbrev pub name_fields : Option (List ℕ) → List Field
name_fields (Some name) = field (codes "case_name") (string name) ∷ []
name_fields None = []

-- the fields of a case's number and its name
unfoldable pub case_fields : List NamedCase → (case : ℕ) → List Field
case_fields named case = field (codes "case") (amount case) ∷ name_fields (name_of named case)

-- the field of what rows call a case, if they do
abbrev pub title_fields : (title : List ℕ) → List Field
title_fields [] = []
title_fields (b ∷ title) = field (codes "title") (string (b ∷ title)) ∷ []

-- the field of what rows call a deadline or a motion, if they do
abbrev pub label_fields : (label : List ℕ) → List Field
label_fields [] = []
label_fields (b ∷ label) = field (codes "label") (string (b ∷ label)) ∷ []

-- the fields of a case's number, its name and its title
abbrev pub called_case_fields : LabelsView → (case : ℕ) → List Field
called_case_fields labels case = case_fields labels.cases case ++ title_fields (title_of labels.called case)
