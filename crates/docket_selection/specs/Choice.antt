-- Which judge, which case and which days are chosen.
use Rattle.std.specs.Prelude.{ℕ, ◌==◌, ℤ, int_le, Bool, true, false, ◌&&◌, ◌||◌, not, is_none, List, Option, Some, None, if◌then◌else◌}
use Rattle.std.specs.List.{list_any}
use Rattle.std.specs.Option.{option_and_then, option_map_or}
use Rattle.court_clock.specs.Words.{ClockView}
use Rattle.docket_rows.specs.declared.fact.Assignment.{Assignment}
use Rattle.docket_rows.specs.declared.fact.Closure.{Closure}
use Rattle.docket_rows.specs.declared.sheet.SheetHearing.{SheetHearing}
use Rattle.docket_rows.specs.declared.sheet.SheetMotion.{SheetMotion}
use Rattle.docket_rows.specs.Words.{has_one, sits}
use Rattle.reason_notes.specs.Margins.Words.{end_day}
use Rattle.rule6.specs.declared.timeliness.Shown.{Shown}
use Rattle.docket_selection.specs.declared.choice.Choice.{Choice}

-- the case of that number, or any case
abbrev pub is_case_chosen : Choice → (case : ℕ) → Bool
is_case_chosen choice case = option_map_or (λ chosen. chosen == case) choice.case true

-- the days from the first to the last
abbrev pub is_day_chosen : Choice → (day : ℤ) → Bool
is_day_chosen choice day = int_le choice.from day && int_le day choice.to

-- there is an end, and its day is one of them; an end beyond the days covered has none
abbrev pub is_end_chosen : ClockView → Choice → Option Shown → Bool
is_end_chosen clock choice end = option_map_or (is_day_chosen choice) (option_and_then (end_day clock) end) false

-- the panels in which that judge sits, or any panel
abbrev pub is_panel_chosen : Choice → (panel : List ℕ) → Bool
is_panel_chosen choice panel = option_map_or (λ judge. sits judge panel) choice.judge true

-- there is a hearing, and the judge is in its panel
abbrev pub sits_in : (judge : ℕ) → Option SheetHearing → Bool
sits_in judge hearing = has_one (λ (h : SheetHearing). sits judge h.hearing.judges) hearing

-- some hearing of these motions is before the judge
abbrev pub sits_in_any : (judge : ℕ) → List SheetMotion → Bool
sits_in_any judge motions = list_any (λ (m : SheetMotion). sits_in judge m.hearing) motions

-- the judge has the case, or it is referred to the judge
abbrev pub has_assigned : (judge : ℕ) → Assignment → Bool
has_assigned judge a = (a.judge == judge) || has_one (λ other. other == judge) a.referred

-- A case is before the judges to whom it is assigned and referred; one that isn't assigned, before those of its hearings.
abbrev pub is_case_before : (judge : ℕ) → Option Assignment → List SheetMotion → Bool
is_case_before judge (Some a) motions = has_assigned judge a
is_case_before judge None motions = sits_in_any judge motions

-- the cases before that judge, or those that aren't where these are chosen in their place, or any case
abbrev pub is_before : Choice → Option Assignment → List SheetMotion → Bool
is_before choice assigned motions =
    option_map_or (λ judge. if choice.elsewhere then not (is_case_before judge assigned motions) else is_case_before judge assigned motions) choice.judge true

-- The deadlines of such a case. Those of one that is closed are chosen only where deadlines that were met or ended are too.
abbrev pub are_deadlines_chosen : Choice → Option Closure → (before : Bool) → Bool
are_deadlines_chosen choice closed before = (choice.met || is_none closed) && before

-- the cases that have a hearing before that judge, or any case
abbrev pub has_hearing : Choice → List SheetMotion → Bool
has_hearing choice motions = option_map_or (λ judge. sits_in_any judge motions) choice.judge true
