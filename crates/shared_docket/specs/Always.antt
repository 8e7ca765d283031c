-- What holds of the docket that clerks share: of every legal history, and after each step of every run.
use Rattle.std.specs.Prelude.{◌≡◌, ℕ, true, None, List, drop, filter, map, take}
use Rattle.docket_rows.specs.declared.answer.Answer.{Answer}
use Rattle.docket_rows.specs.declared.command.Command.{Command}
use Rattle.docket_rows.specs.declared.part.PartId.{PartId}
use Rattle.docket_rows.specs.declared.part.PartValue.{PartValue}
use Rattle.docket_rows.specs.declared.query.Query.TheVariants as query
use Rattle.docket_rows.specs.declared.sheet.Sheet.{Sheet}
use Rattle.docket_rows.specs.declared.view.View.TheVariants as view
use Rattle.docket_rows.specs.Words.{CourtSetup, Parts, is_deadline_in, part_value, parts_of, seen_by}
use Rattle.docket_laws.specs.Words.{AllHaveNotice, NoneIsBookedTwice, deadline_on_sheet}
use Rattle.versioned_steps.specs.Words.{World, IsRun, entered, finishes, is_legal, opening_world, value_of}
use Rattle.versioned_steps.specs.declared.entry.Entry.{Entry}
use Rattle.versioned_steps.specs.declared.step.Step.{Step}
use Rattle.versioned_steps.specs.declared.step.Outcome.{Outcome}
use Rattle.shared_docket.specs.DocketRules.{docket_rules}
use Rattle.shared_docket.specs.Sequential.{IsSequential, rows_of}

-- a run of these clerks, cut short once `made` of its steps were made: what is finished by then is as claimed
pub record HoldsAfter (claim : List (Entry Command Answer) → Type 0) (setup : CourtSetup) (clerks : ℕ) (steps : List (Step Command)) (outcomes : List (Outcome PartId Answer)) (end : World PartId PartValue Command Answer) (made : ℕ) : Type 0 where
  pub between : World PartId PartValue Command Answer
  pub so_far : IsRun (docket_rules setup) (opening_world clerks) (take made steps) (take made outcomes) between
  pub from_there : IsRun (docket_rules setup) between (drop made steps) (drop made outcomes) end
  pub holds : claim between.history

-- what is finished is as claimed after each step of every run of any clerks in any court, before the first step and
-- after the last one too
abbrev pub AlwaysHolds : (CourtSetup → List (Entry Command Answer) → Type 0) → Type 0
AlwaysHolds claim =
    (setup : CourtSetup) (clerks : ℕ) (steps : List (Step Command)) (outcomes : List (Outcome PartId Answer)) (end : World PartId PartValue Command Answer) →
    IsRun (docket_rules setup) (opening_world clerks) steps outcomes end → (made : ℕ) → HoldsAfter (claim setup) setup clerks steps outcomes end made

-- what every legal history has, whoever finished its commands and whatever steps led to it: the journal of an office is one
abbrev pub HoldsOfLegal : (CourtSetup → List (Entry Command Answer) → Type 0) → Type 0
HoldsOfLegal claim = (setup : CourtSetup) (history : List (Entry Command Answer)) → is_legal (docket_rules setup) history ≡ true → claim setup history

-- both
abbrev pub Holds : (CourtSetup → List (Entry Command Answer) → Type 0) → Type 0
Holds claim = HoldsOfLegal claim × AlwaysHolds claim

-- what clerks share after a history is one docket: each entry is answered as the step of the docket after the entries before it, and each
-- part is that of the docket after all of them
pub record IsOneDocket (setup : CourtSetup) (history : List (Entry Command Answer)) : Type 0 where
  pub answers : IsSequential setup history
  pub parts : (part : PartId) → value_of (docket_rules setup) history part ≡ part_value (parts_of (rows_of setup history)) part

abbrev pub LegalIsOneDocket : Type 0
LegalIsOneDocket = HoldsOfLegal IsOneDocket

-- the sheet of a case, as the shared parts show it, has just the deadlines that are docketed in the case; the end of each is what the rules
-- give by the days that are docketed then
abbrev pub ShowDeadlines : CourtSetup → List (Entry Command Answer) → Type 0
ShowDeadlines setup history =
    (parts : Parts) → ((part : PartId) → part_value parts part ≡ value_of (docket_rules setup) history part) →
    (case : ℕ) (sheet : Sheet) → seen_by setup parts (query.Sheet case) ≡ view.Sheet sheet →
    sheet.deadlines ≡ map (deadline_on_sheet setup (rows_of setup history)) (filter (is_deadline_in case) (rows_of setup history).deadlines)

abbrev pub ClerksShareOneDocket : Type 0
ClerksShareOneDocket = AlwaysHolds IsOneDocket

abbrev pub NoneIsDoubleBooked : Type 0
NoneIsDoubleBooked = Holds (λ setup history. NoneIsBookedTwice (rows_of setup history))

abbrev pub HearingsHaveNotice : Type 0
HearingsHaveNotice = Holds (λ setup history. AllHaveNotice (rows_of setup history))

abbrev pub DeadlinesAreShown : Type 0
DeadlinesAreShown = Holds ShowDeadlines

-- The steps that were answered Finished are, in their order, the entries of the history at the places 1, 2, 3 and so on, each with its
-- clerk, the command that this clerk began last, its place and its answer. Before the first step no clerk has begun anything.
abbrev pub FinishedStandOnce : Type 0
FinishedStandOnce =
    (setup : CourtSetup) (clerks : ℕ) (steps : List (Step Command)) (outcomes : List (Outcome PartId Answer)) (end : World PartId PartValue Command Answer) →
    IsRun (docket_rules setup) (opening_world clerks) steps outcomes end → finishes (λ _. None) steps outcomes ≡ entered 1 end.history
