-- What the definitions come to.
use Rattle.std.specs.Prelude.{◌≡◌, ◌⊎◌, ℕ, ◌+◌, ◌<◌, List, [], ◌∷◌, ◌++◌, filter, Option, Some, None, option_to_list, if◌then◌else◌}
use Rattle.docket_laws.specs.Words.{docket_after}
use Rattle.docket_rows.specs.declared.command.Command.{Command}
use Rattle.docket_rows.specs.declared.hearing.Hearing.{Hearing}
use Rattle.docket_rows.specs.Words.{CourtSetup, Rows, hearing_of, is_deadline_in, is_fact_in, opening_rows, step}
use Rattle.docket_selection.specs.declared.changes.change.RowChange.{RowChange}
use Rattle.docket_selection.specs.declared.changes.history.HearingHistory.{HearingHistory}
use Rattle.docket_selection.specs.Changes.Change.{change_made}
use Rattle.docket_selection.specs.Changes.History.{history_of, is_before}
use Rattle.docket_selection.specs.Changes.Revision.{revision_of}

-- what commands change of a docket, of which the first is in the row of that number, each as it is answered
unfoldable pub changes_from : CourtSetup → Rows → (row : ℕ) → List Command → List RowChange
changes_from setup rows row [] = []
changes_from setup rows row (c ∷ cs) =
    option_to_list (change_made row c (step setup rows c).1) ++ changes_from setup (step setup rows c).0 (row + 1) cs

-- what commands change, from the first row on, of a docket that begins with the days of the court's file
abbrev pub changes_by : CourtSetup → List Command → List RowChange
changes_by setup commands = changes_from setup (opening_rows setup) 1 commands

-- the hearing in which a history ends, unless it is off
abbrev pub last_hearing : Option HearingHistory → Option Hearing
last_hearing (Some history) = if history.cancelled then None else Some history.hearing
last_hearing None = None

-- a hearing, if the judge is in its panel
abbrev pub hearing_before : (judge : Option ℕ) → Option Hearing → Option Hearing
hearing_before judge (Some h) = if is_before judge h then Some h else None
hearing_before judge None = None

-- The history of a motion ends in the hearing that the docket has for it, or in none where the docket has none. As a judge saw it, it
-- ends in that hearing only where the judge is in its panel.
abbrev pub HistoriesEndInTheDocket : Type 0
HistoriesEndInTheDocket =
    (setup : CourtSetup) (commands : List Command) (judge : Option ℕ) (case motion : ℕ)
    → last_hearing (history_of judge case motion (changes_by setup commands)) ≡ hearing_before judge (hearing_of (docket_after setup commands) case motion)

-- all on which the events of a case rest is as it was before: the court's days, the deadlines of the case, its hearings, and what is
-- recorded of it
pub record KeepsEvents (case : ℕ) (before after : Rows) : Type 0 where
  pub days : after.days ≡ before.days
  pub deadlines : filter (is_deadline_in case) after.deadlines ≡ filter (is_deadline_in case) before.deadlines
  pub hearings : (motion : ℕ) → hearing_of after case motion ≡ hearing_of before case motion
  pub facts : filter (is_fact_in case) after.facts ≡ filter (is_fact_in case) before.facts

-- a command, after these, leaves the revision of the case's events, and all on which they rest
pub record KeepsRevision (setup : CourtSetup) (commands : List Command) (command : Command) (case : ℕ) : Type 0 where
  pub revision : revision_of case (changes_by setup (commands ++ command ∷ [])) ≡ revision_of case (changes_by setup commands)
  pub events : KeepsEvents case (docket_after setup commands) (docket_after setup (commands ++ command ∷ []))

-- One command more raises the revision of a case's events, or leaves all on which they rest. So no revision falls as rows are added, and
-- where an event is written otherwise than before, its revision is higher.
abbrev pub RevisionsRiseWithEvents : Type 0
RevisionsRiseWithEvents =
    (setup : CourtSetup) (commands : List Command) (command : Command) (case : ℕ)
    → (revision_of case (changes_by setup commands) < revision_of case (changes_by setup (commands ++ command ∷ []))) ⊎ KeepsRevision setup commands command case
