-- What is written of a schedule.
use Rattle.std.specs.Prelude.{◌≡◌, ℕ, List, [], ◌∷◌, ◌++◌, codes}
use Rattle.std.specs.Fmt.{decimal}
use Rattle.std.specs.List.{flat_map}
use Rattle.court_clock.specs.Words.{ClockView}
use Rattle.court_days.specs.Words.{CourtView}
use Rattle.docket_rows.specs.declared.answer.Answer.{Answer}
use Rattle.docket_rows.specs.declared.command.Command.{Command}
use Rattle.docket_rows.specs.declared.part.PartId.{PartId}
use Rattle.docket_rows.specs.declared.part.PartId.TheVariants.{Court, Judge, Room, Case}
use Rattle.docket_rows.specs.declared.part.PartValue.{PartValue}
use Rattle.docket_rows.specs.Words.{setup_of}
use Rattle.versioned_steps.specs.declared.step.Step.{Step}
use Rattle.versioned_steps.specs.declared.step.Outcome.{Outcome}
use Rattle.versioned_steps.specs.declared.step.Outcome.TheVariants.{Began, Busy, Idle, NoClerk, ReadPart, Ready, NotRead, Finished, WasStale, Discarded, NoMemory}
use Rattle.versioned_steps.specs.Words.{World, IsRun, opening_world}
use Rattle.shared_docket.specs.Words.{docket_rules}
use Rattle.office_texts.specs.Words.{answer_text}

-- the name of a part; judges and rooms are numbered from 0, in the order of the court's file
abbrev pub part_text : PartId → List ℕ
part_text Court = codes "court"
part_text (Judge judge) = codes "judge " ++ decimal judge
part_text (Room room) = codes "room " ++ decimal room
part_text (Case case) = codes "case " ++ decimal case

-- a part and its version
abbrev pub part_at : PartId → (version : ℕ) → List ℕ
part_at part version = part_text part ++ codes " at " ++ decimal version

-- what became of a step
unfoldable pub outcome_text : ClockView → Outcome PartId Answer → List ℕ
outcome_text clock Began = codes "began"
outcome_text clock Busy = codes "busy"
outcome_text clock Idle = codes "idle"
outcome_text clock NoClerk = codes "no clerk"
outcome_text clock (ReadPart part version) = codes "read " ++ part_at part version
outcome_text clock Ready = codes "ready"
outcome_text clock NotRead = codes "not read"
outcome_text clock (Finished place answer) = codes "finished " ++ decimal place ++ codes " " ++ answer_text clock answer
outcome_text clock (WasStale part version) = codes "stale " ++ part_at part version
outcome_text clock Discarded = codes "discarded"
outcome_text clock NoMemory = codes "no memory"

-- a line for each outcome
abbrev pub told : ClockView → List (Outcome PartId Answer) → List ℕ
told clock outcomes = flat_map (λ outcome. outcome_text clock outcome ++ 10 ∷ []) outcomes

-- A line is added for each step: its outcome in a run of these steps, of that many clerks who share the court's docket.
pub record AddsRun (court : CourtView) (clerks : ℕ) (steps : List (Step Command)) (old new : List ℕ) : Type 0 where
  pub outcomes : List (Outcome PartId Answer)
  pub end : World PartId PartValue Command Answer
  pub is_run : IsRun (docket_rules (setup_of court)) (opening_world clerks) steps outcomes end
  pub added : new ≡ old ++ told court.clock outcomes
