-- The row of who has a case.
use Rattle.std.specs.Prelude.{ℕ, List, [], ◌∷◌, Option, Some, None, codes}
use Rattle.court_days.specs.Words.{CourtView}
use Rattle.docket_rows.specs.declared.fact.Assignment.{Assignment}
use Rattle.office_texts.specs.Words.{name_of}
use Rattle.report_sql.specs.Rows.{SqlValue, or_null, row_of, text}
use Rattle.report_sql.specs.Times.{day_value}

-- a judge, by name
abbrev pub judge_value : CourtView → (judge : ℕ) → SqlValue
judge_value court judge = text (name_of court.judges judge)

-- since when the case of that number is assigned, who has it, and to whom it is referred; NULL where it is to nobody
unfoldable pub assignment_row : CourtView → (case : ℕ) → Assignment → List ℕ
assignment_row court case a =
    row_of (codes "assignments") case (day_value a.dated ∷ judge_value court a.judge ∷ or_null (judge_value court) a.referred ∷ [])

abbrev pub assignment_row_if_any : CourtView → (case : ℕ) → Option Assignment → List ℕ
assignment_row_if_any court case (Some a) = assignment_row court case a
assignment_row_if_any court case None = []
