-- What would do instead of a hearing that is refused, where that can be said of its day or its time alone.
use Rattle.std.specs.Prelude.{ℕ, ◌+◌, ◌-◌, ◌*◌, ℤ, pos, ◌+ℤ◌, Bool, ◌&&◌, not, is_none, List, [], ◌++◌, find, Option, Some, None, codes}
use Rattle.std.specs.List.{range_with_len}
use Rattle.court_clock.specs.Words.{later_day}
use Rattle.court_days.specs.Words.{DaysView, earliest_day}
use Rattle.hearing_slots.specs.declared.need.Need.{Need}
use Rattle.docket_rows.specs.declared.command.Command.{Command}
use Rattle.docket_rows.specs.declared.command.Command.TheVariants.{Book, MoveHearing}
use Rattle.docket_rows.specs.declared.hearing.Setting.{Setting}
use Rattle.docket_rows.specs.declared.refusal.Refusal.{Refusal}
use Rattle.docket_rows.specs.declared.refusal.Refusal.TheVariants.{NotACourtDay, ShortNotice, JudgeBusy, RoomBusy}
use Rattle.docket_rows.specs.declared.sheet.SheetMotion.{SheetMotion}
use Rattle.docket_rows.specs.Words.{CourtSetup, Parts, is_court_day, lacks_last_service, missed_service, refusal}
use Rattle.reason_texts.specs.Words.{minute_time, note_line}
use Rattle.reason_refusals.specs.Commands.Words.{motion_at}

-- on this day the court sits, and a motion that needs such a notice, and was served then with it, has its notice
abbrev pub can_be_heard : DaysView → Need → (served : ℤ) → (day : ℤ) → Bool
can_be_heard days need served day =
    is_court_day days day && (not (lacks_last_service days day need) && is_none (missed_service days day need served))

-- the first day on which the motion can be heard, from the asked day on
abbrev pub first_heard : DaysView → Setting → SheetMotion → Option ℤ
first_heard days s motion = earliest_day days (can_be_heard days motion.need (later_day motion.served s.notice)) s.day

-- the next day on which the court sits
abbrev pub next_sitting : DaysView → Setting → Option ℤ
next_sitting days s = earliest_day days (is_court_day days) (s.day +ℤ pos 1)

-- the same command for another slot of the day, of which it has 96
abbrev pub at_slot : Command → (slot : ℕ) → Command
at_slot (Book s) slot = Book (record s { first = slot })
at_slot (MoveHearing s) slot = MoveHearing (record s { first = slot })
at_slot command slot = command

-- the first later slot of the day for which the command isn't refused
unfoldable pub free_slot : CourtSetup → Parts → Command → (first : ℕ) → Option ℕ
free_slot setup parts command first =
    find (λ slot. is_none (refusal setup parts (at_slot command slot))) (range_with_len (first + 1) (96 - (first + 1)))

-- a line of a day, if there is one
abbrev pub day_line : (what section : List ℕ) → Option ℤ → List ℕ
day_line what section None = []
day_line what section (Some day) = note_line (Some day) what section

abbrev pub heard_line : DaysView → Setting → Option SheetMotion → List ℕ
heard_line days s None = []
heard_line days s (Some motion) = day_line (codes "first hearing that can be noticed") (codes "6(c)(1)") (first_heard days s motion)

-- a line of a slot, if there is one; slot s begins at minute 15·s
abbrev pub free_text : (slot : ℕ) → List ℕ
free_text slot = codes "judges and room are free from " ++ minute_time (15 * slot)

abbrev pub free_line : (day : ℤ) → Option ℕ → List ℕ
free_line day None = []
free_line day (Some slot) = note_line (Some day) (free_text slot) (codes "ours")

-- in place of this hearing, for which the command asks
abbrev pub instead_of : CourtSetup → Parts → Command → Setting → Refusal → List ℕ
instead_of setup parts command s NotACourtDay = day_line (codes "next day on which the court sits") (codes "ours") (next_sitting parts.days s)
instead_of setup parts command s (ShortNotice latest) = heard_line parts.days s (motion_at setup parts (Some (s.case, s.motion)))
instead_of setup parts command s (JudgeBusy case motion) = free_line s.day (free_slot setup parts command s.first)
instead_of setup parts command s (RoomBusy case motion) = free_line s.day (free_slot setup parts command s.first)
instead_of setup parts command s refusal = []

-- a command that asks for no hearing has nothing in its place
unfoldable pub instead : CourtSetup → Parts → Command → Refusal → List ℕ
instead setup parts (Book s) refusal = instead_of setup parts (Book s) s refusal
instead setup parts (MoveHearing s) refusal = instead_of setup parts (MoveHearing s) s refusal
instead setup parts command refusal = []
