-- The line of a case that is assigned in one docket alone, or is assigned otherwise.
use Rattle.std.specs.Prelude.{ℕ, List, [], ◌++◌, Option, Some, None, codes}
use Rattle.case_numbers.specs.declared.names.NamedCase.{NamedCase}
use Rattle.court_clock.specs.Words.{day_text}
use Rattle.court_days.specs.Words.{CourtView}
use Rattle.docket_rows.specs.declared.fact.Assignment.{Assignment}
use Rattle.docket_rows.specs.declared.view.View.{View}
use Rattle.docket_rows.specs.declared.view.View.TheVariants as view
use Rattle.office_texts.specs.Words.{assigned_text}
use Rattle.docket_shifts.specs.Closings.{told_line}

-- who has a case, among judges of these names, or that nobody has: `assigned 2025-11-03 to Ames, referred to Cole`
abbrev pub assigned_told : (names : List (List ℕ)) → Option Assignment → List ℕ
assigned_told names None = codes "not assigned"
assigned_told names (Some a) = codes "assigned " ++ day_text a.dated ++ codes " to " ++ assigned_text names a

-- the line of a case that is assigned otherwise by the second of two sheets than by the first, where it is open by both
abbrev pub assignment_shift : (before after : CourtView) → List NamedCase → (case : ℕ) → (was is : View) → List ℕ
assignment_shift before after named case (view.Sheet was) (view.Sheet is) =
    told_line named case (assigned_told before.judges was.assigned) (assigned_told after.judges is.assigned)
assignment_shift before after named case was is = []
