-- What the laws of dockets say.
use Rattle.std.specs.Prelude.{◌≡◌, ℕ, true, is_some, List, All, AllPairs, IsSomeAnd, filter, find, map}
use Rattle.court_clock.specs.declared.direction.Direction.TheVariants.{After}
use Rattle.court_days.specs.Words.{is_permitted}
use Rattle.rule_periods.specs.Words.{shown_of}
use Rattle.docket_rows.specs.declared.command.Command.{Command}
use Rattle.docket_rows.specs.declared.query.Query.TheVariants as query
use Rattle.docket_rows.specs.declared.sheet.Sheet.{Sheet}
use Rattle.docket_rows.specs.declared.sheet.SheetDeadline.{SheetDeadline}
use Rattle.docket_rows.specs.declared.view.View.TheVariants as view
use Rattle.docket_rows.specs.Words.{CourtSetup, Rows, DocketedDeadline, DocketedHearing, Clash, IsNoticed, AreSound, AreLawful, ending_in, facts_of, opening_rows, is_deadline_in, is_motion, is_within_hours, state_of, rows_from, step, view_of}

-- the rows of a docket after some commands, which begins with the days of the court's file
abbrev pub docket_after : CourtSetup → List Command → Rows
docket_after setup commands = rows_from setup (opening_rows setup) commands

-- no two hearings that share a judge or a room share a slot of a day
abbrev pub NoneIsBookedTwice : Rows → Type 0
NoneIsBookedTwice rows = AllPairs (λ (a b : DocketedHearing). Clash a.hearing b.hearing → ⊥) rows.hearings

-- each hearing lies on a day that is no Saturday, Sunday or legal holiday by the days as they are docketed now, and
-- while the clerk's office is open
abbrev pub AllAreOnCourtDays : CourtSetup → Rows → Type 0
AllAreOnCourtDays setup rows = All (λ (h : DocketedHearing). (is_permitted rows.days After h.hearing.day ≡ true) × (is_within_hours setup.clock h.hearing.first h.hearing.count ≡ true)) rows.hearings

-- each hearing is that of a docketed motion, which is heard ex parte or was served in time, and so was the notice of the
-- hearing, by the days as they are docketed now (Fed. R. Civ. P. 6(c)(1))
abbrev pub AllHaveNotice : Rows → Type 0
AllHaveNotice rows = All (λ (h : DocketedHearing). IsSomeAnd (find (is_motion h.case h.motion) rows.motions) (λ m. IsNoticed rows.days h.hearing.day m.need m.served h.hearing.notice)) rows.hearings

-- a docketed deadline with the end of its time, and whether it was met, by the days as they are docketed now, and why it is due
-- no more, if it isn't
abbrev pub deadline_on_sheet : CourtSetup → Rows → DocketedDeadline → SheetDeadline
deadline_on_sheet setup rows d = record {
  number = d.number;
  row = d.row;
  shown = shown_of rows.days setup.clock d.row;
  state = state_of setup.clock (shown_of rows.days setup.clock d.row) d.row.filed;
  ended = ending_in (facts_of rows d.case) d.number (is_some d.row.filed);
}

-- a sheet has just the deadlines of its case, in their order
abbrev pub SheetShowsDeadlines : CourtSetup → Rows → ℕ → Type 0
SheetShowsDeadlines setup rows case = (sheet : Sheet) → view_of setup rows (query.Sheet case) ≡ view.Sheet sheet → sheet.deadlines ≡ map (deadline_on_sheet setup rows) (filter (is_deadline_in case) rows.deadlines)

-- The laws, each of a docket after any commands

abbrev pub NoJudgeOrRoomIsBookedTwice : Type 0
NoJudgeOrRoomIsBookedTwice = (setup : CourtSetup) (commands : List Command) → NoneIsBookedTwice (docket_after setup commands)

abbrev pub EveryHearingHasItsNotice : Type 0
EveryHearingHasItsNotice = (setup : CourtSetup) (commands : List Command) → AllHaveNotice (docket_after setup commands)

abbrev pub EveryHearingLiesOnACourtDayWithinOfficeHours : Type 0
EveryHearingLiesOnACourtDayWithinOfficeHours = (setup : CourtSetup) (commands : List Command) → AllAreOnCourtDays setup (docket_after setup commands)

-- of any rows
abbrev pub DeadlinesAreShownByTheDaysAsDocketed : Type 0
DeadlinesAreShownByTheDaysAsDocketed = (setup : CourtSetup) (rows : Rows) (case : ℕ) → SheetShowsDeadlines setup rows case

-- before any command the rows fit together and are lawful
pub record TheOpeningDocketIsLawful : Type 0 where
  pub sound : (setup : CourtSetup) → AreSound setup (opening_rows setup)
  pub lawful : (setup : CourtSetup) → AreLawful setup (opening_rows setup)

-- the rows fit together after any commands, since no step undoes that
pub record RowsStaySound : Type 0 where
  pub after_a_step : (setup : CourtSetup) (rows : Rows) (command : Command) → AreSound setup rows → AreSound setup (step setup rows command).0
  pub always : (setup : CourtSetup) (commands : List Command) → AreSound setup (docket_after setup commands)

-- the rows are lawful after any commands, since no step undoes that
pub record RowsStayLawful : Type 0 where
  pub after_a_step : (setup : CourtSetup) (rows : Rows) (command : Command) → AreSound setup rows → AreLawful setup rows → AreLawful setup (step setup rows command).0
  pub always : (setup : CourtSetup) (commands : List Command) → AreLawful setup (docket_after setup commands)
