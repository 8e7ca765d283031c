-- What moves the time for an appeal: a timely motion under Rule 50(b), 52(b) or 59 about a judgment gives it another beginning, the order on
-- the last such motion (Fed. R. App. P. 4(a)(4)). Whether a motion was timely is left to the reader.
use Rattle.std.specs.Prelude.{ℕ, ◌==◌, ◌&&◌, ◌||◌, not, Bool, true, false, List, [], Option, Some, None, codes, if◌then◌else◌}
use Rattle.std.specs.Ordering.{int_eq}
use Rattle.court_clock.specs.declared.direction.Direction.{Direction}
use Rattle.court_clock.specs.declared.direction.Direction.TheVariants.{After}
use Rattle.rule6.specs.declared.timeliness.Act.{Act}
use Rattle.rule6.specs.declared.timeliness.Act.TheVariants as act
use Rattle.rule6.specs.declared.timeliness.Filing.{Filing}
use Rattle.rule_periods.specs.declared.mark.Mark.{Mark}
use Rattle.rule_periods.specs.declared.mark.Mark.TheVariants.{Rule60b}
use Rattle.rule_periods.specs.declared.period.Entered.{Entered}
use Rattle.rule_periods.specs.declared.period.Length.{Length}
use Rattle.rule_periods.specs.declared.period.Length.TheVariants.{Days, Hours, ToDay, ToTime}
use Rattle.rule_periods.specs.declared.period.Period.{Period}
use Rattle.rule_periods.specs.declared.period.Period.TheVariants.{Rule as OfRule, Entered as OfText}
use Rattle.rule_periods.specs.Words.{DeadlineRowView}
use Rattle.reason_notes.specs.Warnings.Notes.{moves_appeal, note}

-- 30 days, or 60 where a party is the United States, its agency or officer (Fed. R. App. P. 4(a)(1)(A), (B))
abbrev pub is_appeal_length : Length → Bool
is_appeal_length (Days n) = (n == 30) || (n == 60)
is_appeal_length (Hours h) = false
is_appeal_length ToDay = false
is_appeal_length ToTime = false

-- a paper is to be filed after an event
abbrev pub is_filing_after : Direction → Act → Bool
is_filing_after After act.Filing = true
is_filing_after direction done = false

-- The mark that the tables give to a time for an appeal. It bars an extension, and no mark names the Appellate Rules.
abbrev pub marks_appeal : Mark → Bool
marks_appeal Rule60b = true
marks_appeal other = false

-- an entered period of the form of FRAP 4(a)(1)(A) or (B): `30d/after/filing/event/60b`, or `60d`
abbrev pub is_of_appeal : Entered → Bool
is_of_appeal e = is_appeal_length e.length && is_filing_after e.direction e.act && not e.served && marks_appeal e.mark

-- a period is a time for an appeal
abbrev pub is_appeal : Period → Bool
is_appeal (OfRule rule) = false
is_appeal (OfText entered) = is_of_appeal entered

-- An act of another deadline moves the time of this one: this is a time for an appeal, the act a motion about the judgment, and the events
-- of both are on one day. Both are counted in days, so that no time of day counts.
abbrev pub is_moved_by : DeadlineRowView → (other : DeadlineRowView) → Bool
is_moved_by row other = is_appeal row.period && moves_appeal other.period && int_eq row.event.day other.event.day

-- the note on an act that was done, if it moves the time
abbrev pub note_if_moved : (moved : Bool) → (done : Option Filing) → List ℕ
note_if_moved moved None = []
note_if_moved moved (Some filing) =
    if moved then note (Some filing.day) (codes "a motion, if timely, moves this: FRAP 4(a)(4)") else []

-- the note on a deadline for that act of another deadline of its case
unfoldable pub moved_note : DeadlineRowView → (other : DeadlineRowView) → (done : Option Filing) → List ℕ
moved_note row other done = note_if_moved (is_moved_by row other) done
