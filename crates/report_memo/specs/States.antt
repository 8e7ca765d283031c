-- The act of a deadline in a memo, and the state that the docket shows of that deadline.
use Rattle.std.specs.Prelude.{◌≡◌, ℕ, List, Option, Some}
use Rattle.std.specs.Io.{StartsWith}
use Rattle.rule6.specs.declared.timeliness.Filing.{Filing}
use Rattle.rule6.specs.declared.timeliness.Means.{Means}
use Rattle.rule_periods.specs.Words.{shown_of}
use Rattle.docket_rows.specs.declared.fact.Fact.{Fact}
use Rattle.docket_rows.specs.Words.{CourtSetup, NumberedDeadline, Parts, sheet_deadline}
use Rattle.office_texts.specs.Words.{state_word}
use Rattle.reason_notes.specs.Margins.Words.{margin_of, margin_text}

-- What is said of an act begins with the word that the sheet has for the state of its deadline: timely, late or undecided.
abbrev pub MarginsSayTheState : Type 0
MarginsSayTheState = (setup : CourtSetup) (parts : Parts) (facts : List Fact) (d : NumberedDeadline) (filing : Filing) (end : Option ℕ) (means : Means) → d.row.filed ≡ Some filing → StartsWith (margin_text end means (margin_of setup.clock (shown_of parts.days setup.clock d.row) filing)) (state_word (sheet_deadline setup parts facts d).state)
