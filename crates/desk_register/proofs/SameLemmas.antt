-- What is one is shown alike, and has no line.
use Rattle.std.proofs.Common.{◌≡◌, ◌∙◌, ◌&&◌, ℕ, ℤ, Bool, true, false, List, [], Option, Some, None, refl, sym, ap}
use Rattle.std.specs.Ordering.{int_eq}
use Rattle.std.proofs.lemmas.Bool.Decides.{Decides-int_eq}
use Rattle.case_numbers.specs.declared.names.NamedCase.{NamedCase}
use Rattle.court_days.specs.Words.{CourtView, DaysView}
use Rattle.rule6.specs.declared.timeliness.Act.{Act}
use Rattle.rule6.specs.declared.timeliness.Act.TheVariants.{Filing, Service}
use Rattle.rule6.specs.declared.timeliness.Shown.{Shown}
use Rattle.rule6.specs.declared.timeliness.Shown.TheVariants.{Beyond, Last, Until}
use Rattle.rule_periods.specs.Words.{shown_of}
use Rattle.docket_rows.specs.declared.command.Counted.TheVariants.{Deadline, Motion}
use Rattle.docket_rows.specs.declared.sheet.SheetDeadline.{SheetDeadline}
use Rattle.docket_rows.specs.declared.sheet.SheetHearing.{SheetHearing}
use Rattle.docket_rows.specs.Words.{sheet_hearing}
use Rattle.office_texts.specs.Words.{hearing_text, shown_text}
use Rattle.docket_shifts.specs.Words.{shift_line}
use Rattle.desk_register.specs.Same.{is_same_act, is_same_day, is_same_end}
use Rattle.desk_register.specs.Shifts.{deadline_shift, hearing_shift}
use Rattle.desk_register.proofs.ShiftLemmas.{alike}

same_act : (x y : Act) → is_same_act x y ≡ true → x ≡ y
same_act Filing Filing is = refl
same_act Filing Service is = cc is
same_act Service Filing is = cc is
same_act Service Service is = refl

same_end : (x y : Shown) → is_same_end x y ≡ true → x ≡ y
same_end (Last day act) (Last other due) is = by (int_eq day other) refl is
  where
    by : (b : Bool) → int_eq day other ≡ b → (b && is_same_act act due) ≡ true → Last day act ≡ Last other due
    by true e is = ap (λ (d : ℤ). Last d act) ((Decides-int_eq day other).0 e) ∙ ap (λ (a : Act). Last other a) (same_act act due is)
    by false e is = cc is
same_end (Last day act) (Until other) is = cc is
same_end (Last day act) Beyond is = cc is
same_end (Until at) (Last other due) is = cc is
same_end (Until at) (Until other) is = ap (λ (t : ℤ). Until t) ((Decides-int_eq at other).0 is)
same_end (Until at) Beyond is = cc is
same_end Beyond (Last other due) is = cc is
same_end Beyond (Until other) is = cc is
same_end Beyond Beyond is = refl

same_day : (x y : Option ℤ) → is_same_day x y ≡ true → x ≡ y
same_day (Some day) (Some other) is = ap (λ (d : ℤ). Some d) ((Decides-int_eq day other).0 is)
same_day (Some day) None is = cc is
same_day None (Some other) is = cc is
same_day None None is = refl

-- a deadline that ends as it did has no line
pub same_end_line : (court : CourtView) (before : DaysView) (named : List NamedCase) (case : ℕ) (d : SheetDeadline) → is_same_end (shown_of before court.clock d.row) d.shown ≡ true → deadline_shift court before named case d ≡ []
same_end_line court before named case d is =
    ap (λ (s : Shown). shift_line named case Deadline d.number (shown_text court.clock s) (shown_text court.clock d.shown)) (same_end (shown_of before court.clock d.row) d.shown is)
    ∙ alike named case Deadline d.number (shown_text court.clock d.shown)

-- nor has a hearing with the same last day for affidavits
pub same_day_line : (court : CourtView) (before : DaysView) (named : List NamedCase) (case number : ℕ) (h : SheetHearing) → is_same_day (sheet_hearing before h.hearing).affidavits h.affidavits ≡ true → hearing_shift court before named case number (Some h) ≡ []
unfolding hearing_text
same_day_line court before named case number h is =
    ap (λ (day : Option ℤ). shift_line named case Motion number (hearing_text court (record h { affidavits = day })) (hearing_text court h)) (same_day (sheet_hearing before h.hearing).affidavits h.affidavits is)
    ∙ alike named case Motion number (hearing_text court h)
