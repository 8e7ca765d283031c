-- The lines of a docket sheet.
use Rattle.std.specs.Prelude.{ℕ, ℤ, List, [], ◌∷◌, ◌++◌, Option, Some, None, codes}
use Rattle.std.specs.Fmt.{decimal}
use Rattle.std.specs.List.{flat_map}
use Rattle.court_clock.specs.Words.{ClockView, day_text, minute_text}
use Rattle.court_days.specs.Words.{CourtView}
use Rattle.rule6.specs.declared.timeliness.Filing.{Filing}
use Rattle.rule6.specs.declared.timeliness.Means.{Means}
use Rattle.rule6.specs.declared.timeliness.Means.TheVariants.{Electronic, Paper}
use Rattle.hearing_slots.specs.declared.need.Need.{Need}
use Rattle.hearing_slots.specs.declared.need.Need.TheVariants as need
use Rattle.docket_rows.specs.declared.fact.Assignment.{Assignment}
use Rattle.docket_rows.specs.declared.fact.Closure.{Closure}
use Rattle.docket_rows.specs.declared.fact.DatedRuling.{DatedRuling}
use Rattle.docket_rows.specs.declared.fact.Ending.{Ending}
use Rattle.docket_rows.specs.declared.sheet.Sheet.{Sheet}
use Rattle.docket_rows.specs.declared.sheet.SheetDeadline.{SheetDeadline}
use Rattle.docket_rows.specs.declared.sheet.SheetHearing.{SheetHearing}
use Rattle.docket_rows.specs.declared.sheet.SheetMotion.{SheetMotion}
use Rattle.docket_rows.specs.declared.sheet.State.{State}
use Rattle.docket_rows.specs.declared.sheet.State.TheVariants.{Pending, Timely, Late, Undecided}
use Rattle.docket_rows.specs.Words.{closing_word, ending_word, ruling_word, suspended_by}
use Rattle.office_texts.specs.Calendars.{name_of, span_text}
use Rattle.office_texts.specs.Periods.{period_text}
use Rattle.office_texts.specs.Shown.{shown_text}

abbrev pub state_word : State → List ℕ
state_word Pending = codes "pending"
state_word Timely = codes "timely"
state_word Late = codes "late"
state_word Undecided = codes "undecided"

abbrev pub means_text : Means → List ℕ
means_text Electronic = codes "electronic"
means_text Paper = codes "paper"

-- when and how the act was done, where one is recorded
abbrev pub act_done_text : Option Filing → List ℕ
act_done_text None = []
act_done_text (Some f) = codes " " ++ day_text f.day ++ codes " " ++ minute_text f.minute ++ codes " " ++ means_text f.means

-- by which motion a deadline is suspended, where that is known
abbrev pub suspended_text : (motion : Option ℕ) → List ℕ
suspended_text None = []
suspended_text (Some motion) = codes " by motion " ++ decimal motion

-- why a deadline is due no more, where it was ended and not resumed
abbrev pub ended_text : Ending → List ℕ
ended_text why = codes "ended " ++ ending_word why ++ suspended_text (suspended_by why)

abbrev pub and_ended_text : Option Ending → List ℕ
and_ended_text None = []
and_ended_text (Some why) = codes ", " ++ ended_text why

-- whether the deadline was met, and by which act, and why it is due no more; of one that was ended no act is pending
abbrev pub state_text : State → Option Filing → Option Ending → List ℕ
state_text Pending filed (Some why) = ended_text why
state_text state filed ended = state_word state ++ act_done_text filed ++ and_ended_text ended

-- `deadline 1 12a1Ai last 2025-03-24 timely 2025-03-24 23:59 electronic`, `deadline 2 59e last 2025-09-02 ended moot`
unfoldable pub deadline_line : ClockView → SheetDeadline → List ℕ
deadline_line clock d =
    codes "deadline " ++ decimal d.number ++ codes " " ++ period_text d.row.period ++ codes " " ++ shown_text clock d.shown ++ codes " " ++ state_text d.state d.row.filed d.ended ++ 10 ∷ []

abbrev pub need_text : Need → List ℕ
need_text need.ExParte = codes "exparte"
need_text (need.Days n) = decimal n

-- the names of a panel's judges, in its order, joined by `+`
abbrev pub panel_text : (names : List (List ℕ)) → (panel : List ℕ) → List ℕ
panel_text names [] = []
panel_text names (j ∷ []) = name_of names j
panel_text names (j ∷ k ∷ panel) = name_of names j ++ codes "+" ++ panel_text names (k ∷ panel)

-- the last day to serve an opposing affidavit, if there is one
abbrev pub affidavits_text : Option ℤ → List ℕ
affidavits_text None = codes " affidavits none"
affidavits_text (Some day) = codes " affidavits " ++ day_text day

-- when the notice of a hearing was served, and by when affidavits can be
abbrev pub service_text : (notice : ℤ) → (affidavits : Option ℤ) → List ℕ
service_text notice affidavits = codes " notice " ++ day_text notice ++ affidavits_text affidavits

-- `hearing 2025-09-15 10:30 2 Ames R1 notice 2025-08-29 affidavits 2025-09-08`
unfoldable pub hearing_text : CourtView → SheetHearing → List ℕ
hearing_text court h =
    codes "hearing " ++ span_text h.hearing.day h.hearing.first h.hearing.count ++ codes " " ++ panel_text court.judges h.hearing.judges ++ codes " " ++ name_of court.rooms h.hearing.room ++ service_text h.hearing.notice h.affidavits

abbrev pub hearing_line_if_set : CourtView → Option SheetHearing → List ℕ
hearing_line_if_set court None = []
hearing_line_if_set court (Some h) = hearing_text court h ++ 10 ∷ []

-- how a motion was ruled on: `granted 2025-09-15`
abbrev pub ruled_text : DatedRuling → List ℕ
ruled_text r = ruling_word r.ruling ++ codes " " ++ day_text r.dated

-- the same after what is said of it, if it was
abbrev pub and_ruled_text : Option DatedRuling → List ℕ
and_ruled_text None = []
and_ruled_text (Some r) = codes ", " ++ ruled_text r

-- `motion 1 served 2025-08-29 need 14`, `motion 2 served 2025-08-29 need 14, granted 2025-09-15`, and where it has a hearing the line of it
unfoldable pub motion_lines : CourtView → SheetMotion → List ℕ
motion_lines court m =
    codes "motion " ++ decimal m.number ++ codes " served " ++ day_text m.served ++ codes " need " ++ need_text m.need ++ and_ruled_text m.ruling ++ 10 ∷ hearing_line_if_set court m.hearing

-- how a case was closed after what is said of it, if it was: `, closed 2025-11-03 settled`
abbrev pub and_closed_text : Option Closure → List ℕ
and_closed_text None = []
and_closed_text (Some c) = codes ", closed " ++ day_text c.dated ++ codes " " ++ closing_word c.why

-- `case 1 filed 2025-03-03`
abbrev pub case_line : Sheet → List ℕ
case_line s = codes "case " ++ decimal s.case ++ codes " filed " ++ day_text s.filed ++ and_closed_text s.closed ++ (10 ∷ [])

-- to whom a case is referred after who has it, if it is: `, referred to Cole`
abbrev pub referred_text : (names : List (List ℕ)) → Option ℕ → List ℕ
referred_text names None = []
referred_text names (Some judge) = codes ", referred to " ++ name_of names judge

-- `Ames, referred to Cole`
abbrev pub assigned_text : (names : List (List ℕ)) → Assignment → List ℕ
assigned_text names a = name_of names a.judge ++ referred_text names a.referred

-- the line of who has a case, if it was assigned: `assigned Ames, referred to Cole`
abbrev pub assigned_line : (names : List (List ℕ)) → Option Assignment → List ℕ
assigned_line names None = []
assigned_line names (Some a) = codes "assigned " ++ assigned_text names a ++ 10 ∷ []

-- the line of the case, then who has it, then its deadlines, then its motions
unfoldable pub sheet_lines : CourtView → Sheet → List ℕ
sheet_lines court s =
    case_line s ++ assigned_line court.judges s.assigned ++ flat_map (deadline_line court.clock) s.deadlines ++ flat_map (motion_lines court) s.motions
