-- What facts of cases come to: without them nothing is closed, ended, ruled on or assigned, a closed case ends the deadlines without an
-- act, a ruling leaves no later hearing, and what something is called changes nothing.
use Rattle.std.specs.Prelude.{◌≡◌, ℕ, ℤ, Bool, true, false, not, is_some, List, [], Some, None}
use Rattle.std.specs.List.{list_all}
use Rattle.docket_rows.specs.declared.command.Command.{Command}
use Rattle.docket_rows.specs.declared.command.Command.TheVariants.{Fact}
use Rattle.docket_rows.specs.declared.fact.Ending.TheVariants.{CaseClosed}
use Rattle.docket_rows.specs.declared.fact.Fact.{Fact as FactOf}
use Rattle.docket_rows.specs.declared.fact.Fact.TheVariants.{Ruled}
use Rattle.docket_rows.specs.declared.fact.Ruling.{Ruling}
use Rattle.docket_rows.specs.Words.{CourtSetup, Rows, DocketedDeadline, assigned_in, ended_in, ending_in, facts_of, hearing_of, if_ahead, is_closed, is_kept, parts_of, refusal, ruling_in, step}
use Rattle.docket_laws.specs.Lawful.{deadline_on_sheet, docket_after}

-- the command records a fact of a case
abbrev pub records_fact : Command → Bool
records_fact (Fact case fact) = true
records_fact other = false

-- Commands that record no fact, such as those of clerk_office, leave none. And where there is none, no case is closed or assigned, no
-- deadline is ended and no motion is ruled on: so nothing is refused for that, and sheets show what they show without facts.
pub record WithoutFactsNothingIsEnded : Type 0 where
  pub none_recorded : (setup : CourtSetup) (commands : List Command) → list_all (λ command. not (records_fact command)) commands ≡ true → (docket_after setup commands).facts ≡ []
  pub none_closed : (rows : Rows) (case : ℕ) → rows.facts ≡ [] → is_closed (parts_of rows) case ≡ false
  pub none_ended : (rows : Rows) (case number : ℕ) (acted : Bool) → rows.facts ≡ [] → ending_in (facts_of rows case) number acted ≡ None
  pub none_ruled : (rows : Rows) (case number : ℕ) → rows.facts ≡ [] → ruling_in (facts_of rows case) number ≡ None
  pub none_assigned : (rows : Rows) (case : ℕ) → rows.facts ≡ [] → assigned_in (facts_of rows case) ≡ None

-- On the sheet of a closed case each deadline of which no act is recorded is ended. One with an act shows what it shows while its case is
-- open.
pub record ClosedCasesEndTheirDeadlines : Type 0 where
  pub pending_ends : (setup : CourtSetup) (rows : Rows) (d : DocketedDeadline) → is_closed (parts_of rows) d.case ≡ true → d.row.filed ≡ None → (deadline_on_sheet setup rows d).ended ≡ Some CaseClosed
  pub acted_stays : (setup : CourtSetup) (rows : Rows) (d : DocketedDeadline) → is_some d.row.filed ≡ true → (deadline_on_sheet setup rows d).ended ≡ ended_in (facts_of rows d.case) d.number

-- A ruling that isn't refused leaves its motion no hearing after its day. A hearing of that day or before stays, and so do those of other
-- motions, whether the ruling is refused or not.
pub record RulingsLeaveNoLaterHearing : Type 0 where
  pub none_later : (setup : CourtSetup) (rows : Rows) (case motion : ℕ) (how : Ruling) (dated : ℤ) → refusal setup (parts_of rows) (Fact case (Ruled motion how dated)) ≡ None → if_ahead dated (hearing_of (step setup rows (Fact case (Ruled motion how dated))).0 case motion) ≡ None
  pub earlier_stays : (setup : CourtSetup) (rows : Rows) (case motion : ℕ) (how : Ruling) (dated : ℤ) → if_ahead dated (hearing_of rows case motion) ≡ None → (step setup rows (Fact case (Ruled motion how dated))).0.hearings ≡ rows.hearings
  pub others_stay : (setup : CourtSetup) (rows : Rows) (case motion : ℕ) (how : Ruling) (dated : ℤ) (n k : ℕ) → ((n ≡ case) × (k ≡ motion) → ⊥) → hearing_of (step setup rows (Fact case (Ruled motion how dated))).0 n k ≡ hearing_of rows n k

-- What a case, a deadline or a motion is called changes nothing of the docket: no day, no hearing and no refusal depends on it.
abbrev pub WhatIsCalledChangesNothing : Type 0
WhatIsCalledChangesNothing = (setup : CourtSetup) (rows : Rows) (case : ℕ) (fact : FactOf) → is_kept fact ≡ false → (step setup rows (Fact case fact)).0 ≡ rows
