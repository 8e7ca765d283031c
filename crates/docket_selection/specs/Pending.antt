-- What has been pending for long on a day, by judge, as the reports of each March and September list it (28 U.S.C. 476(a)): motions
-- that weren't ruled on for more than six months, and cases that weren't closed for more than three years. Rulings, closings and
-- assignments count if they are dated by that day.
use Rattle.std.specs.Prelude.{ℕ, ◌==◌, ℤ, Bool, true, false, ◌&&◌, not, List, [], ◌++◌, Option, Some, None, is_none, option_to_list, if◌then◌else◌}
use Rattle.std.specs.List.{flat_map, range_with_len}
use Rattle.court_clock.specs.Words.{has_passed}
use Rattle.docket_rows.specs.declared.fact.Assignment.{Assignment}
use Rattle.docket_rows.specs.declared.fact.DatedRuling.{DatedRuling}
use Rattle.docket_rows.specs.declared.fact.Fact.{Fact}
use Rattle.docket_rows.specs.declared.fact.Ruling.{Ruling}
use Rattle.docket_rows.specs.declared.fact.Ruling.TheVariants as ruling
use Rattle.docket_rows.specs.declared.sheet.Sheet.{Sheet}
use Rattle.docket_rows.specs.declared.sheet.SheetMotion.{SheetMotion}
use Rattle.docket_rows.specs.Words.{CourtSetup, Rows, assigned_by, closing_by, facts_in, has_one, parts_of, ruling_by}
use Rattle.docket_selection.specs.declared.pending.PendingItem.{PendingItem}
use Rattle.docket_selection.specs.declared.pending.PendingKind.{PendingKind}
use Rattle.docket_selection.specs.declared.pending.PendingKind.TheVariants.{Cases, Motions}
use Rattle.docket_selection.specs.Sheets.{open_sheets}

-- the ruling decides the motion; one that is reserved is still pending
abbrev pub decides : Ruling → Bool
decides ruling.Granted = true
decides ruling.Denied = true
decides ruling.InPart = true
decides ruling.Moot = true
decides ruling.Withdrawn = true
decides ruling.Reserved = false

-- a motion that was ruled on so is decided
abbrev pub is_decided : Option DatedRuling → Bool
is_decided (Some r) = decides r.ruling
is_decided None = false

-- a case that is assigned so is listed under the judge who has it, and one that isn't under none
abbrev pub is_listed_under : (judge : Option ℕ) → Option Assignment → Bool
is_listed_under judge (Some a) = has_one (λ other. other == a.judge) judge
is_listed_under judge None = is_none judge

-- the motion, if it was served more than six months before the day and wasn't decided by then, where these facts are recorded of its case
abbrev pub pending_motion : (day : ℤ) → (judge : Option ℕ) → (case : ℕ) → List Fact → SheetMotion → Option PendingItem
pending_motion day judge case facts m =
    if has_passed 6 m.served day && not (is_decided (ruling_by facts m.number day))
    then Some (record { judge = judge; case = case; motion = Some m.number; since = m.served })
    else None

-- the case, if it was filed more than three years before the day
abbrev pub pending_case : (day : ℤ) → (judge : Option ℕ) → (case : ℕ) → (filed : ℤ) → Option PendingItem
pending_case day judge case filed =
    if has_passed 36 filed day then Some (record { judge = judge; case = case; motion = None; since = filed }) else None

unfoldable pub motion_if_pending : (day : ℤ) → (judge : Option ℕ) → (case : ℕ) → List Fact → SheetMotion → List PendingItem
motion_if_pending day judge case facts m = option_to_list (pending_motion day judge case facts m)

-- of a case: its motions by number, or the case itself
abbrev pub pending_in : PendingKind → (day : ℤ) → (judge : Option ℕ) → List Fact → Sheet → List PendingItem
pending_in Motions day judge facts s = flat_map (motion_if_pending day judge s.case facts) s.motions
pending_in Cases day judge facts s = option_to_list (pending_case day judge s.case s.filed)

-- the same, if on the day the case was listed under that judge and wasn't closed; `facts` has those that are recorded of each case
unfoldable pub listed_under : PendingKind → (day : ℤ) → (facts : ℕ → List Fact) → (judge : Option ℕ) → Sheet → List PendingItem
listed_under kind day facts judge s =
    if is_listed_under judge (assigned_by (facts s.case) day) && is_none (closing_by (facts s.case) day) then pending_in kind day judge (facts s.case) s else []

-- what is listed under a judge of the court, by case
abbrev pub pending_before : PendingKind → (day : ℤ) → (facts : ℕ → List Fact) → List Sheet → (judge : ℕ) → List PendingItem
pending_before kind day facts sheets judge = flat_map (listed_under kind day facts (Some judge)) sheets

-- under a number of judges, from a first number on
unfoldable pub pending_from : PendingKind → (day : ℤ) → (facts : ℕ → List Fact) → List Sheet → (first count : ℕ) → List PendingItem
pending_from kind day facts sheets first count = flat_map (pending_before kind day facts sheets) (range_with_len first count)

-- under each of that many judges, by their numbers, and last what no judge has
abbrev pub pending_among : PendingKind → (day : ℤ) → (facts : ℕ → List Fact) → List Sheet → (judges : ℕ) → List PendingItem
pending_among kind day facts sheets judges =
    pending_from kind day facts sheets 0 judges ++ flat_map (listed_under kind day facts None) sheets

-- the list of all cases of the docket
abbrev pub all_pending : CourtSetup → Rows → PendingKind → (day : ℤ) → List PendingItem
all_pending setup docketed kind day = pending_among kind day (facts_in (parts_of docketed)) (open_sheets setup docketed) setup.judges
