-- What became of the hearing of a motion, as a judge saw it or as all did.
use Rattle.std.specs.Prelude.{ℕ, ◌==◌, Bool, true, false, ◌&&◌, List, Option, Some, None, option_map, fold, if◌then◌else◌}
use Rattle.std.specs.Option.{option_map_or}
use Rattle.docket_rows.specs.declared.hearing.Hearing.{Hearing}
use Rattle.docket_rows.specs.Words.{sits}
use Rattle.docket_selection.specs.declared.changes.change.Change.{Change}
use Rattle.docket_selection.specs.declared.changes.change.Change.TheVariants as change
use Rattle.docket_selection.specs.declared.changes.change.HearingChange.{HearingChange}
use Rattle.docket_selection.specs.declared.changes.change.RowChange.{RowChange}
use Rattle.docket_selection.specs.declared.changes.history.HearingHistory.{HearingHistory}

-- the judge is in its panel; each hearing is before any judge
abbrev pub is_before : (judge : Option ℕ) → Hearing → Bool
is_before judge h = option_map_or (λ j. sits j h.judges) judge true

-- a hearing that is taken off the judge's calendar: it stays known as it was set last before the judge
abbrev pub called_off : HearingHistory → HearingHistory
called_off before = record { hearing = before.hearing; cancelled = true }

-- after a change that sets it before the judge or before others, or takes it off
abbrev pub changed_to : (judge : Option ℕ) → Option HearingHistory → Option Hearing → Option HearingHistory
changed_to judge before (Some h) = if is_before judge h then Some (record { hearing = h; cancelled = false }) else option_map called_off before
changed_to judge before None = option_map called_off before

-- a change of the hearing of that motion
abbrev pub is_of : (case motion : ℕ) → HearingChange → Bool
is_of case motion change = change.case == case && change.motion == motion

-- after a change of a hearing, which may be that of another motion
abbrev pub followed : (judge : Option ℕ) → (case motion : ℕ) → Option HearingHistory → HearingChange → Option HearingHistory
followed judge case motion before change = if is_of case motion change then changed_to judge before change.hearing else before

-- after one change more
abbrev pub follow : (judge : Option ℕ) → (case motion : ℕ) → Option HearingHistory → Change → Option HearingHistory
follow judge case motion before (change.Hearing h) = followed judge case motion before h
follow judge case motion before (change.Deadline of) = before
follow judge case motion before (change.Judges of to referred) = before
follow judge case motion before change.Days = before

-- the hearing of that motion after some changes, in their order: none if it was never set before the judge
abbrev pub history_of : (judge : Option ℕ) → (case motion : ℕ) → List RowChange → Option HearingHistory
history_of judge case motion changes = fold (λ before (c : RowChange). follow judge case motion before c.change) None changes
