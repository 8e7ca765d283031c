-- What the head of a memo says of the case that is asked for: its number, what rows call it, and who has it.
use Rattle.std.specs.Prelude.{ℕ, ◌==◌, List, [], ◌++◌, length, codes, Option, Some, None, if◌then◌else◌}
use Rattle.case_numbers.specs.Words.{case_text}
use Rattle.case_numbers.specs.declared.names.NamedCase.{NamedCase}
use Rattle.court_days.specs.Words.{CourtView}
use Rattle.docket_rows.specs.declared.fact.Assignment.{Assignment}
use Rattle.docket_rows.specs.declared.query.Query.TheVariants as query
use Rattle.docket_rows.specs.declared.view.View.{View}
use Rattle.docket_rows.specs.declared.view.View.TheVariants as view
use Rattle.docket_rows.specs.Words.{opening_rows, setup_of, view_of}
use Rattle.desk_numbers.specs.Words.{TextsView, title_of}
use Rattle.row_forms.specs.declared.numbered.NumberedRow.{NumberedRow}
use Rattle.row_forms.specs.Words.{rows_of}
use Rattle.office_texts.specs.Words.{assigned_text}
use Rattle.office_texts.specs.Run.Words.{docketed_after}

-- `Case     2:25-cv-00214`: the court's own number of the case, where it has one
abbrev pub number_line : List NamedCase → (case : ℕ) → List ℕ
number_line named case = codes "Case     " ++ case_text named case ++ codes "\n"

-- `Title    Doe v. Acme`: what rows call the case, if they do
abbrev pub title_line : (title : List ℕ) → List ℕ
title_line title = if length title == 0 then [] else codes "Title    " ++ title ++ codes "\n"

-- `Judge    Ames, referred to Cole`: who has the case, if it is assigned
abbrev pub judge_line : (names : List (List ℕ)) → Option Assignment → List ℕ
judge_line names None = []
judge_line names (Some a) = codes "Judge    " ++ assigned_text names a ++ codes "\n"

-- who has the case of a sheet, if it is assigned
abbrev pub assigned_on : View → Option Assignment
assigned_on (view.Sheet sheet) = sheet.assigned
assigned_on _ = None

-- who has the case of that number after these rows
unfoldable pub assigned_after : CourtView → List NumberedRow → (case : ℕ) → Option Assignment
assigned_after court rows case =
    assigned_on (view_of (setup_of court) (docketed_after (setup_of court) (opening_rows (setup_of court)) (rows_of rows)) (query.Sheet case))

-- these lines
unfoldable pub about_case : CourtView → List NamedCase → TextsView → List NumberedRow → (case : ℕ) → List ℕ
about_case court named called rows case = number_line named case ++ title_line (title_of called case) ++ judge_line court.judges (assigned_after court rows case)

-- those of a case, if there is one
abbrev pub about_case_if_any : CourtView → List NamedCase → TextsView → List NumberedRow → (case : Option ℕ) → List ℕ
about_case_if_any court named called rows None = []
about_case_if_any court named called rows (Some case) = about_case court named called rows case
