-- Of a closed case no deadline is due.
use Rattle.std.proofs.Common.{◌≡◌, ℕ, ℤ, Bool, true, false, ◌&&◌, ◌||◌, not, is_none, is_some, List, [], ◌∷◌, ◌++◌, filter_map, Option, Some, None, refl, ap, subst, ◌∙◌, if◌then◌else◌}
use Rattle.std.specs.Option.{option_map_or}
use Rattle.std.proofs.lemmas.Bool.{false≢true}
use Rattle.court_clock.specs.Words.{CivilTime, ClockView}
use Rattle.docket_rows.specs.declared.fact.Closure.{Closure}
use Rattle.docket_rows.specs.declared.query.Query.TheVariants as query
use Rattle.docket_rows.specs.declared.refusal.Refusal.{Refusal}
use Rattle.docket_rows.specs.declared.refusal.Refusal.TheVariants.{NoSuchCase}
use Rattle.docket_rows.specs.declared.sheet.Sheet.{Sheet}
use Rattle.docket_rows.specs.declared.sheet.SheetDeadline.{SheetDeadline}
use Rattle.docket_rows.specs.declared.view.View.TheVariants as view
use Rattle.docket_rows.specs.Words.{CaseRecordView, CourtSetup, Parts, Rows, closing_in, is_closed, parts_of, query_refusal, seen_by, sheet_of, view_of}
use Rattle.reason_notes.specs.Readings.Words.{DaysByReadingView, days_by_reading, other_end}
use Rattle.docket_selection.specs.declared.choice.Choice.{Choice}
use Rattle.docket_selection.specs.declared.item.DueDeadline.{DueDeadline}
use Rattle.docket_selection.specs.declared.item.DueItem.{DueItem}
use Rattle.docket_selection.specs.declared.item.Matter.TheVariants.{Deadline}
use Rattle.docket_selection.specs.Choice.{are_deadlines_chosen, is_before, is_case_chosen, is_day_chosen}
use Rattle.docket_selection.specs.Due.{due_deadline, due_hearing, due_in, is_due_any_day, is_due_by_either, is_other_chosen}
use Rattle.docket_selection.specs.Items.{end_of, is_ended, is_met, with_other}

-- a deadline isn't due where those of its case aren't chosen, whatever else is so
never : (chosen : Bool) → (chosen && false) ≡ false
never false = refl
never true = refl

never_there : (day due : Bool) → due ≡ false → (day && due) ≡ false
never_there false due fails = refl
never_there true due fails = fails

-- an item that isn't due is left out
left_out : (due : Bool) (item : DueItem) → due ≡ false → (if due then Some item else None) ≡ None
left_out due item fails = rw fails refl

module _ (clock : ClockView) (choice : Choice) where
  not_due : (item : DueItem) (d : DueDeadline) → item.matter ≡ Deadline d → is_due_any_day choice false item ≡ false
  not_due item d is = rw is (never (is_case_chosen choice item.case && (choice.met || not (is_met (Deadline d) || is_ended (Deadline d)))))

  not_due_either : (item : DueItem) (d : DueDeadline) → item.matter ≡ Deadline d → is_due_by_either clock choice false item ≡ false
  not_due_either item d is = never_there (is_day_chosen choice item.day || is_other_chosen clock choice item.matter) (is_due_any_day choice false item) (not_due item d is)

  -- the item of a deadline whose time ends then
  abbrev item_at : DaysByReadingView → (case : ℕ) → SheetDeadline → CivilTime → DueItem
  item_at days case d at =
      with_other (other_end days clock d.row) (record { day = at.day; second = at.second; case = case; number = d.number; matter = Deadline (record { period = d.row.period; shown = d.shown; state = d.state; ended = d.ended; other = None }) })

  not_due_at : (days : DaysByReadingView) (case : ℕ) (d : SheetDeadline) (at : Option CivilTime) → end_of clock d.shown ≡ at → due_deadline days clock case choice false d ≡ None
  not_due_at days case d None is = rw is refl
  not_due_at days case d (Some at) is = rw is (left_out (is_due_by_either clock choice false (item_at days case d at)) (item_at days case d at) (not_due_either (item_at days case d at) _ refl))

  none_due : (days : DaysByReadingView) (case : ℕ) (ds : List SheetDeadline) → filter_map (due_deadline days clock case choice false) ds ≡ []
  none_due days case [] = refl
  none_due days case (d ∷ ds) = rw (not_due_at days case d (end_of clock d.shown) refl) (none_due days case ds)

-- the sheet of a closed case says how it was closed
closing_known : (closed : Option Closure) → is_some closed ≡ true → is_none closed ≡ false
closing_known None is = absurd (false≢true is)
closing_known (Some c) is = refl

same_sheet : (a b : Sheet) → view.Sheet a ≡ view.Sheet b → a ≡ b
same_sheet a b h = cc

shown_closed : (setup : CourtSetup) (parts : Parts) (case : ℕ) (refused : Option Refusal) (c : Option CaseRecordView) (sheet : Sheet)
    → is_some (closing_in (option_map_or (λ (r : CaseRecordView). r.facts) c [])) ≡ true
    → option_map_or view.Refused refused (option_map_or (λ (r : CaseRecordView). view.Sheet (sheet_of setup parts case r)) c (view.Refused NoSuchCase)) ≡ view.Sheet sheet
    → is_none sheet.closed ≡ false
shown_closed setup parts case (Some r) c sheet closed h = absurd cc
shown_closed setup parts case None None sheet closed h = absurd cc
shown_closed setup parts case None (Some r) sheet closed h =
    subst (λ (s : Sheet). is_none s.closed ≡ false) (same_sheet (sheet_of setup parts case r) sheet h) (closing_known (closing_in r.facts) closed)

closed_on_sheet : (setup : CourtSetup) (rows : Rows) (case : ℕ) (sheet : Sheet) → is_closed (parts_of rows) case ≡ true → view_of setup rows (query.Sheet case) ≡ view.Sheet sheet → is_none sheet.closed ≡ false
unfolding seen_by
closed_on_sheet setup rows case sheet closed h =
    shown_closed setup (parts_of rows) case (query_refusal setup (parts_of rows) (query.Sheet case)) ((parts_of rows).case case) sheet closed h

-- then its deadlines aren't chosen
not_chosen : (choice : Choice) (closed : Option Closure) (before : Bool) → choice.met ≡ false → is_none closed ≡ false → are_deadlines_chosen choice closed before ≡ false
not_chosen choice closed before met known = rw (met, known) refl

pub closed_not_due : (setup : CourtSetup) (rows : Rows) (doubtful : List ℤ) (choice : Choice) (case : ℕ) (sheet : Sheet) → choice.met ≡ false → is_closed (parts_of rows) case ≡ true → view_of setup rows (query.Sheet case) ≡ view.Sheet sheet → due_in (days_by_reading rows.days doubtful) setup.clock choice sheet ≡ filter_map (due_hearing sheet.case choice (is_before choice sheet.assigned sheet.motions)) sheet.motions
unfolding due_in
closed_not_due setup rows doubtful choice case sheet met closed shown =
    let days = days_by_reading rows.days doubtful in
    let before = is_before choice sheet.assigned sheet.motions in
    let hearings : List DueItem = filter_map (due_hearing sheet.case choice before) sheet.motions in
    ap (λ (chosen : Bool). filter_map (due_deadline days setup.clock sheet.case choice chosen) sheet.deadlines ++ hearings) (not_chosen choice sheet.closed before met (closed_on_sheet setup rows case sheet closed shown))
    ∙ ap (λ (due : List DueItem). due ++ hearings) (none_due setup.clock choice days sheet.case sheet.deadlines)
