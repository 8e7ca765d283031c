-- What a query shows of a docket.
use Rattle.std.specs.Prelude.{ℕ, List, map, Option, Some, None, is_some, option_map, if◌then◌else◌}
use Rattle.std.specs.Option.{option_map_or}
use Rattle.court_clock.specs.Words.{ClockView}
use Rattle.court_days.specs.Words.{DaysView}
use Rattle.rule6.specs.declared.timeliness.Filing.{Filing}
use Rattle.rule6.specs.declared.timeliness.Shown.{Shown}
use Rattle.rule6.specs.Words.{is_in_time}
use Rattle.rule_periods.specs.Words.{is_beyond, notice_of}
use Rattle.hearing_slots.specs.Words.{on_day}
use Rattle.docket_rows.specs.declared.fact.Fact.{Fact}
use Rattle.docket_rows.specs.declared.hearing.Hearing.{Hearing}
use Rattle.docket_rows.specs.declared.query.Query.{Query}
use Rattle.docket_rows.specs.declared.query.Query.TheVariants as query
use Rattle.docket_rows.specs.declared.refusal.Refusal.TheVariants.{NoSuchCase}
use Rattle.docket_rows.specs.declared.sheet.State.{State}
use Rattle.docket_rows.specs.declared.sheet.State.TheVariants.{Pending, Timely, Late, Undecided}
use Rattle.docket_rows.specs.declared.sheet.Sheet.{Sheet}
use Rattle.docket_rows.specs.declared.sheet.SheetDeadline.{SheetDeadline}
use Rattle.docket_rows.specs.declared.sheet.SheetHearing.{SheetHearing}
use Rattle.docket_rows.specs.declared.sheet.SheetMotion.{SheetMotion}
use Rattle.docket_rows.specs.declared.view.View.{View}
use Rattle.docket_rows.specs.declared.view.View.TheVariants as view
use Rattle.docket_rows.specs.CourtSetup.{CourtSetup}
use Rattle.docket_rows.specs.Cases.{CaseRecordView, NumberedDeadline, NumberedMotion}
use Rattle.docket_rows.specs.Facts.{assigned_in, closing_in, ending_in, ruling_in}
use Rattle.docket_rows.specs.Parts.{Parts, parts_of}
use Rattle.docket_rows.specs.Refusals.{query_refusal}
use Rattle.docket_rows.specs.Rows.{Rows}
use Rattle.docket_rows.specs.Seen.{started, shown_now}

-- Whether a deadline was met: no act is recorded, or it was in time or late (Fed. R. Civ. P. 6(a)(4)), by the days as
-- they are docketed now; where its time ends beyond those days, that isn't decided.
abbrev pub state_of : ClockView → Shown → Option Filing → State
state_of clock shown None = Pending
state_of clock shown (Some filing) =
    if is_beyond shown then Undecided else if is_in_time clock shown filing then Timely else Late

-- a deadline of a case of which these facts are recorded
abbrev pub sheet_deadline : CourtSetup → Parts → List Fact → NumberedDeadline → SheetDeadline
sheet_deadline setup parts facts d = record {
  number = d.number;
  row = d.row;
  shown = shown_now setup parts d.row;
  state = state_of setup.clock (shown_now setup parts d.row) d.row.filed;
  ended = ending_in facts d.number (is_some d.row.filed);
}

-- a hearing, and the last day to serve an opposing affidavit, 7 days before it (Fed. R. Civ. P. 6(c)(2))
abbrev pub sheet_hearing : DaysView → Hearing → SheetHearing
sheet_hearing days h = record { hearing = h; affidavits = notice_of days h.day 7 }

-- a motion of a case of which these facts are recorded
abbrev pub sheet_motion : DaysView → List Fact → NumberedMotion → SheetMotion
sheet_motion days facts m = record {
  number = m.number;
  served = m.served;
  need = m.need;
  hearing = option_map (sheet_hearing days) m.hearing;
  ruling = ruling_in facts m.number;
}

-- the sheet of a case
abbrev pub sheet_of : CourtSetup → Parts → (case : ℕ) → CaseRecordView → Sheet
sheet_of setup parts case c = record {
  case = case;
  filed = c.filed;
  closed = closing_in c.facts;
  assigned = assigned_in c.facts;
  deadlines = map (sheet_deadline setup parts c.facts) c.deadlines;
  motions = map (sheet_motion parts.days c.facts) c.motions;
}

-- what a query that isn't refused shows
abbrev pub shown_if_asked : CourtSetup → Parts → Query → View
shown_if_asked setup parts (query.Sheet case) =
    option_map_or (λ c. view.Sheet (sheet_of setup parts case c)) (parts.case case) (view.Refused NoSuchCase)
shown_if_asked setup parts (query.JudgeDay judge day) = view.Bookings (on_day day (parts.judge judge))
shown_if_asked setup parts (query.Compute period event second service) =
    view.Computed (shown_now setup parts (started period event second service))

-- what a query shows where the parts are these
unfoldable pub seen_by : CourtSetup → Parts → Query → View
seen_by setup parts q = option_map_or view.Refused (query_refusal setup parts q) (shown_if_asked setup parts q)

-- what a query shows of the rows
abbrev pub view_of : CourtSetup → Rows → Query → View
view_of setup rows q = seen_by setup (parts_of rows) q
