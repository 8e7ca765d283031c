-- A docket that has taken all rows shows what the rows come to.
use Rattle.std.proofs.Common.{◌≡◌, ◌∙◌, ℕ, false, List, Option, Some, None, Result, Ok, Err, Vec, option_map, refl, sym, ap, subst}
use Rattle.std.specs.Prelude.{IfSome, IsOkAnd, is_some, if◌then◌else◌}
use Rattle.std.specs.declared.alloc.Global.{Global}
use Rattle.case_numbers.specs.declared.names.NamedCase.{NamedCase}
use Rattle.court_days.specs.Words.{CourtView}
use Rattle.docket_rows.specs.Words.{Rows}
use Rattle.docket_selection.specs.declared.item.DueItem.{DueItem}
use Rattle.docket_selection.specs.declared.changes.change.RowChange.{RowChange}
use Rattle.row_forms.specs.declared.numbered.NumberedRow.{NumberedRow}
use Rattle.program_runs.specs.declared.report.Finding.{Finding}
use Rattle.program_runs.specs.declared.report.Finding.TheVariants.{Text}
use Rattle.program_runs.specs.Words.{IsFinding}
use Rattle.report_texts.specs.Words.{LabelsView}
use Rattle.report_program.specs.declared.asked.Asked.{Asked}
use Rattle.report_program.specs.declared.chosen.Chosen.{Chosen}
use Rattle.report_program.specs.declared.chosen.Listing.{Listing}
use Rattle.report_program.specs.declared.chosen.Listing.TheVariants.{Case, Due, Ics, Page, Pending, Sheet, Week}
use Rattle.report_program.specs.declared.chosen.Missing.{Missing}
use Rattle.report_program.specs.Calendar.{IsCalendar, IsListing, IsMissing, IsTextOf, docketed_by, is_calendar}
use Rattle.report_program.specs.Chosen.{◌>>=◌, chosen_of}
use Rattle.report_program.specs.Opened.{case_chosen, case_of, closed_case, closed_in, found_of, found_unless, if_open, unless_closed}
use Rattle.report_program.specs.Past.{PastView}

module _ (court : CourtView) (rows : List NumberedRow) where
  same_closed : (case : Option ℕ) → closed_in court (docketed_by court rows) case ≡ closed_case court rows case
  same_closed (Some case) = refl
  same_closed None = refl

  unless : (chosen : Chosen) (closed : Option ℕ) → found_unless (Ok chosen) closed ≡ unless_closed chosen closed
  unless chosen (Some case) = refl
  unless chosen None = refl

  found_so : (chosen : Result Chosen Missing) → found_unless chosen (closed_in court (docketed_by court rows) (case_of chosen)) ≡ (chosen >>= if_open court rows)
  found_so (Ok chosen) = ap (found_unless (Ok chosen)) (same_closed (case_chosen chosen)) ∙ unless chosen (closed_case court rows (case_chosen chosen))
  found_so (Err missing) = refl

  -- what is chosen of the docket is what is chosen of the court after all rows
  pub found_same : (named : List NamedCase) (asked : Asked) → found_unless (chosen_of court named asked) (closed_in court (docketed_by court rows) (case_of (chosen_of court named asked))) ≡ found_of court named rows asked
  unfolding found_of
  found_same named asked = found_so (chosen_of court named asked)

-- what is shown of a docket hangs on no row, but for a calendar
pub any_came : (court : CourtView) (labels : LabelsView) (docketed : Rows) (made changes : List RowChange) (gone lost : List DueItem) (so_far corrections : ℕ) (listing : Listing) (text : List ℕ)
    → is_calendar listing ≡ false → IsListing court labels docketed made gone so_far listing text → IsListing court labels docketed changes lost corrections listing text
any_came court labels docketed made changes gone lost so_far corrections (Due choice) text other is = is
any_came court labels docketed made changes gone lost so_far corrections (Week judge day) text other is = is
any_came court labels docketed made changes gone lost so_far corrections (Page choice) text other is = is
any_came court labels docketed made changes gone lost so_far corrections (Ics choice stamp) text other is = cc other
any_came court labels docketed made changes gone lost so_far corrections (Sheet case) text other is = is
any_came court labels docketed made changes gone lost so_far corrections (Pending day form) text other is = is
any_came court labels docketed made changes gone lost so_far corrections (Case case) text other is = is

-- a text of what is chosen is what was asked for
pub text_is : (asked : Asked) (court : CourtView) (labels : LabelsView) (past : PastView) (rows : List NumberedRow) (chosen : Chosen) → found_of court labels.cases rows asked ≡ Ok chosen
    → (text : Option (Vec ℕ Global)) (found : Option (Finding (Vec ℕ Global))) → found ≡ option_map (λ (t : Vec ℕ Global). Text t) text
    → IfSome text (λ t. IsTextOf court labels past rows chosen t.items) → IfSome found (IsFinding (λ t. t.items) (IsCalendar asked court labels past rows) (IsMissing asked court labels.cases rows))
text_is asked court labels past rows chosen is None found same so =
    subst (λ (f : Option (Finding (Vec ℕ Global))). IfSome f (IsFinding (λ t. t.items) (IsCalendar asked court labels past rows) (IsMissing asked court labels.cases rows))) (sym same) tt
text_is asked court labels past rows chosen is (Some text) found same so =
    subst (λ (f : Option (Finding (Vec ℕ Global))). IfSome f (IsFinding (λ t. t.items) (IsCalendar asked court labels past rows) (IsMissing asked court labels.cases rows))) (sym same)
    (subst (λ (r : Result Chosen Missing). IsOkAnd r (λ ch. IsTextOf court labels past rows ch text.items)) (sym is) so)

-- something is found where there is a text
pub found_if_text : (text : Option (Vec ℕ Global)) (found : Option (Finding (Vec ℕ Global))) → found ≡ option_map (λ (t : Vec ℕ Global). Text t) text → is_some found ≡ is_some text
found_if_text None found same = ap is_some same
found_if_text (Some text) found same = ap is_some same
