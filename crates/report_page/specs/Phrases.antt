-- What is said of a deadline and of a motion, in words.
use Rattle.std.specs.Prelude.{ℕ, ℤ, List, [], ◌++◌, Option, Some, None, codes}
use Rattle.std.specs.Fmt.{decimal}
use Rattle.case_numbers.specs.Words.{case_text}
use Rattle.case_numbers.specs.declared.names.NamedCase.{NamedCase}
use Rattle.court_clock.specs.Words.{CivilTime, ClockView, civil_of}
use Rattle.court_days.specs.Words.{CourtView}
use Rattle.rule6.specs.declared.timeliness.Filing.{Filing}
use Rattle.rule6.specs.declared.timeliness.Means.{Means}
use Rattle.rule6.specs.declared.timeliness.Means.TheVariants.{Electronic, Paper}
use Rattle.rule6.specs.declared.timeliness.Shown.{Shown}
use Rattle.rule6.specs.declared.timeliness.Shown.TheVariants as shown
use Rattle.hearing_slots.specs.declared.need.Need.{Need}
use Rattle.hearing_slots.specs.declared.need.Need.TheVariants as need
use Rattle.docket_rows.specs.declared.fact.DatedRuling.{DatedRuling}
use Rattle.docket_rows.specs.declared.fact.Ending.{Ending}
use Rattle.docket_rows.specs.declared.hearing.Hearing.{Hearing}
use Rattle.docket_rows.specs.declared.sheet.State.{State}
use Rattle.docket_rows.specs.declared.sheet.State.TheVariants.{Pending, Timely, Late, Undecided}
use Rattle.docket_rows.specs.Words.{ruling_word}
use Rattle.office_texts.specs.Words.{and_ended_text, ended_text}
use Rattle.reason_texts.specs.Words.{minute_time, second_time}
use Rattle.report_texts.specs.Words.{panel_names, room_words, span_words, unit_words, whole_day}

-- `case 3`; a case that has a name is called by it
unfoldable pub case_name : List NamedCase → (case : ℕ) → List ℕ
case_name named case = codes "case " ++ case_text named case

-- `, motion 1`
unfoldable pub motion_name : (motion : ℕ) → List ℕ
motion_name motion = codes ", motion " ++ decimal motion

unfoldable pub beyond_words : List ℕ
beyond_words = codes "beyond the days of the court's file"

-- the end of hours, as the court's clock shows it
abbrev pub until_words : Option CivilTime → List ℕ
until_words (Some at) = codes "until " ++ whole_day at.day ++ codes " " ++ second_time at.second
until_words None = beyond_words

-- `last day Tue 2025-09-02`, `until Mon 2025-03-17 15:00:00`, or that it ends beyond
unfoldable pub ends_words : ClockView → Shown → List ℕ
ends_words clock (shown.Last day act) = codes "last day " ++ whole_day day
ends_words clock (shown.Until end) = until_words (civil_of clock.zone end)
ends_words clock shown.Beyond = beyond_words

abbrev pub state_word : State → List ℕ
state_word Pending = codes "pending"
state_word Timely = codes "timely"
state_word Late = codes "late"
state_word Undecided = codes "undecided"

abbrev pub means_words : Means → List ℕ
means_words Electronic = codes ", electronic"
means_words Paper = codes ", paper"

-- when and how the act was done, where one is recorded
abbrev pub done_words : Option Filing → List ℕ
done_words None = []
done_words (Some f) = codes ": " ++ whole_day f.day ++ codes " " ++ minute_time f.minute ++ means_words f.means

-- `timely: Mon 2025-03-24 23:59, electronic`, `ended moot`; of one that was ended no act is pending
unfoldable pub state_words : State → Option Filing → Option Ending → List ℕ
state_words Pending filed (Some why) = ended_text why
state_words state filed ended = state_word state ++ done_words filed ++ and_ended_text ended

-- `granted Mon 2025-09-15`
unfoldable pub ruling_words : DatedRuling → List ℕ
ruling_words r = ruling_word r.ruling ++ codes " " ++ whole_day r.dated

-- the days of notice that a motion needs
abbrev pub need_words : Need → List ℕ
need_words need.ExParte = codes "ex parte"
need_words (need.Days n) = decimal n ++ unit_words n (codes " day") (codes " days")

-- `Mon 2025-09-15 10:30-11:30`
unfoldable pub hearing_time : Hearing → List ℕ
hearing_time h = whole_day h.day ++ codes " " ++ span_words h.first h.count

-- `before Ames+Brandt, room 11A`
unfoldable pub hearing_place : CourtView → Hearing → List ℕ
hearing_place court h = codes "before " ++ panel_names court h.judges ++ room_words court h.room

-- `notice served Fri 2025-08-29`
unfoldable pub notice_words : (notice : ℤ) → List ℕ
notice_words notice = codes "notice served " ++ whole_day notice

-- the last day to serve an opposing affidavit (Fed. R. Civ. P. 6(c)(2)), if there is one
unfoldable pub affidavits_words : Option ℤ → List ℕ
affidavits_words (Some day) = codes "opposing affidavits by " ++ whole_day day
affidavits_words None = codes "opposing affidavits: none"
