-- What rows call cases, deadlines and motions, as reports show it. Where no row calls a thing so, nothing is shown.
use Rattle.std.specs.Prelude.{ℕ, List, [], ◌∷◌, ◌++◌, codes}
use Rattle.docket_rows.specs.declared.command.Counted.{Counted}
use Rattle.desk_numbers.specs.Words.{label_of, title_of}
use Rattle.report_texts.specs.Labels.{LabelsView}

-- a label after a title
abbrev pub after_colon : List ℕ → List ℕ
after_colon [] = []
after_colon (b ∷ label) = codes ": " ++ b ∷ label

-- a text in brackets, after what has it
abbrev pub in_brackets : List ℕ → List ℕ
in_brackets [] = []
in_brackets (b ∷ text) = codes " (" ++ (b ∷ text) ++ codes ")"

-- a title and a label in brackets, or the one that there is
abbrev pub both_in_brackets : (title label : List ℕ) → List ℕ
both_in_brackets [] label = in_brackets label
both_in_brackets (b ∷ title) label = codes " (" ++ (b ∷ title) ++ after_colon label ++ codes ")"

-- a text on a line of its own, beneath the line of what has it
abbrev pub beneath : List ℕ → List ℕ
beneath [] = []
beneath (b ∷ text) = codes "    " ++ (b ∷ text) ++ codes "\n"

-- a title and a label on such a line, or the one that there is
abbrev pub both_beneath : (title label : List ℕ) → List ℕ
both_beneath [] label = beneath label
both_beneath (b ∷ title) label = codes "    " ++ (b ∷ title) ++ after_colon label ++ codes "\n"

-- ` (Doe v. Acme)`
abbrev pub title_after : LabelsView → (case : ℕ) → List ℕ
title_after labels case = in_brackets (title_of labels.called case)

-- ` (answer of Acme)`
abbrev pub label_after : LabelsView → (case : ℕ) → Counted → (number : ℕ) → List ℕ
label_after labels case kind number = in_brackets (label_of labels.called case kind number)

-- ` (Doe v. Acme: answer of Acme)`
abbrev pub called_after : LabelsView → (case : ℕ) → Counted → (number : ℕ) → List ℕ
called_after labels case kind number = both_in_brackets (title_of labels.called case) (label_of labels.called case kind number)

-- `    Doe v. Acme: answer of Acme`
abbrev pub called_beneath : LabelsView → (case : ℕ) → Counted → (number : ℕ) → List ℕ
called_beneath labels case kind number = both_beneath (title_of labels.called case) (label_of labels.called case kind number)

-- `    Doe v. Acme`
abbrev pub title_beneath : LabelsView → (case : ℕ) → List ℕ
title_beneath labels case = beneath (title_of labels.called case)
