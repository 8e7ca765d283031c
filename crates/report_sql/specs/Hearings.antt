-- The rows of motions, of their hearings and the judges before whom these are, and of how motions were ruled on.
use Rattle.std.specs.Prelude.{ℕ, ◌+◌, ◌*◌, List, [], ◌∷◌, ◌++◌, Option, Some, None, codes}
use Rattle.court_days.specs.Words.{CourtView}
use Rattle.hearing_slots.specs.declared.need.Need.{Need}
use Rattle.hearing_slots.specs.declared.need.Need.TheVariants.{Days, ExParte}
use Rattle.docket_rows.specs.declared.fact.DatedRuling.{DatedRuling}
use Rattle.docket_rows.specs.declared.sheet.SheetHearing.{SheetHearing}
use Rattle.docket_rows.specs.declared.sheet.SheetMotion.{SheetMotion}
use Rattle.docket_rows.specs.Words.{ruling_word}
use Rattle.office_texts.specs.Words.{name_of}
use Rattle.report_sql.specs.Rows.{SqlValue, null, number, numbered, or_null, row_of, text}
use Rattle.report_sql.specs.Times.{day_value, minute_value, slot_value}

-- the days of notice that a hearing needs; NULL where the motion may be heard without notice
abbrev pub notice_value : Need → SqlValue
notice_value ExParte = null
notice_value (Days n) = number n

unfoldable pub motion_row : (case : ℕ) → SheetMotion → List ℕ
motion_row case m = row_of (codes "motions") case (number m.number ∷ day_value m.served ∷ notice_value m.need ∷ [])

-- where and when a hearing is, by the court's clock: slot s begins at minute 15·s of the day
unfoldable pub set_values : CourtView → SheetHearing → List SqlValue
set_values court h =
    text (name_of court.rooms h.hearing.room)
    ∷ day_value h.hearing.day
    ∷ minute_value (15 * h.hearing.first)
    ∷ number (15 * h.hearing.count)
    ∷ []

-- the instants at which it begins and ends, when its notice was served, and by when opposing affidavits are served
unfoldable pub noticed_values : CourtView → SheetHearing → List SqlValue
noticed_values court h =
    slot_value court.clock h.hearing.day h.hearing.first
    ∷ slot_value court.clock h.hearing.day (h.hearing.first + h.hearing.count)
    ∷ day_value h.hearing.notice
    ∷ or_null day_value h.affidavits
    ∷ []

abbrev pub hearing_values : CourtView → (motion : ℕ) → SheetHearing → List SqlValue
hearing_values court motion h = (number motion ∷ set_values court h) ++ noticed_values court h

unfoldable pub hearing_row : CourtView → (case motion : ℕ) → SheetHearing → List ℕ
hearing_row court case motion h = row_of (codes "hearings") case (hearing_values court motion h)

-- a judge of a panel, by its place in it, counted from 1
unfoldable pub judge_values : CourtView → (motion : ℕ) → (place judge : ℕ) → List SqlValue
judge_values court motion place judge = number motion ∷ number place ∷ text (name_of court.judges judge) ∷ []

unfoldable pub judge_row : CourtView → (case motion : ℕ) → (place judge : ℕ) → List ℕ
judge_row court case motion place judge = row_of (codes "panels") case (judge_values court motion place judge)

-- a hearing, and each judge of its panel, in its order
unfoldable pub hearing_rows : CourtView → (case motion : ℕ) → SheetHearing → List ℕ
hearing_rows court case motion h = hearing_row court case motion h ++ numbered (judge_row court case motion) 1 h.hearing.judges

abbrev pub hearing_rows_if_set : CourtView → (case motion : ℕ) → Option SheetHearing → List ℕ
hearing_rows_if_set court case motion (Some h) = hearing_rows court case motion h
hearing_rows_if_set court case motion None = []

-- how a motion was ruled on
unfoldable pub ruling_row : (case motion : ℕ) → DatedRuling → List ℕ
ruling_row case motion r = row_of (codes "rulings") case (number motion ∷ day_value r.dated ∷ text (ruling_word r.ruling) ∷ [])

abbrev pub ruling_row_if_any : (case motion : ℕ) → Option DatedRuling → List ℕ
ruling_row_if_any case motion (Some r) = ruling_row case motion r
ruling_row_if_any case motion None = []

-- a motion, its hearing, and how it was ruled on, if it was
unfoldable pub motion_rows : CourtView → (case : ℕ) → SheetMotion → List ℕ
motion_rows court case m = motion_row case m ++ hearing_rows_if_set court case m.number m.hearing ++ ruling_row_if_any case m.number m.ruling
