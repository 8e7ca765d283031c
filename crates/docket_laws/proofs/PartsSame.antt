-- What a command is answered and what it writes, and what a query shows, rest on what the parts hold alone.
use Rattle.std.proofs.Common.{◌≡◌, ℕ, refl, ap}
use Rattle.court_days.specs.Words.{DaysView}
use Rattle.docket_rows.specs.declared.command.Command.{Command}
use Rattle.docket_rows.specs.declared.command.Command.TheVariants.{Book, MoveHearing, Cancel, Fact}
use Rattle.docket_rows.specs.declared.part.PartId.{PartId}
use Rattle.docket_rows.specs.declared.part.PartId.TheVariants.{Court, Judge, Room, Case}
use Rattle.docket_rows.specs.declared.query.Query.{Query}
use Rattle.docket_rows.specs.declared.query.Query.TheVariants.{Sheet, JudgeDay, Compute}
use Rattle.docket_rows.specs.Words.{CourtSetup, Parts, part_value, refusal, query_refusal, answered, changed, shown_if_asked, seen_by}
use Rattle.docket_laws.proofs.ReadsChanged.{CaseSame, changed_same, answered_rests}
use Rattle.docket_laws.proofs.ReadsSame.{same_days, same_judge, same_room, same_case, refusal_rests}

-- the parts hold the same
pub record HoldSame (p q : Parts) : Type 0 where
  pub days : p.days ≡ q.days
  pub case : (case : ℕ) → p.case case ≡ q.case case
  pub judge : (judge : ℕ) → p.judge judge ≡ q.judge judge
  pub room : (room : ℕ) → p.room room ≡ q.room room

pub hold_same : (p q : Parts) → ((part : PartId) → part_value p part ≡ part_value q part) → HoldSame p q
hold_same p q same = record {
  days = same_days p q (same Court);
  case = λ case. same_case p q case (same (Case case));
  judge = λ judge. same_judge p q judge (same (Judge judge));
  room = λ room. same_room p q room (same (Room room));
}

-- queries
module _ (setup : CourtSetup) (p q : Parts) (same : HoldSame p q) where
  query_same : (query : Query) → query_refusal setup p query ≡ query_refusal setup q query
  unfolding query_refusal
  query_same (Sheet case) = rw (same.case case) refl
  query_same (JudgeDay judge day) = rw same.days refl
  query_same (Compute period event second service) = rw same.days refl

  shown_same : (query : Query) → shown_if_asked setup p query ≡ shown_if_asked setup q query
  shown_same (Sheet case) = rw (same.days, same.case case) refl
  shown_same (JudgeDay judge day) = rw (same.judge judge) refl
  shown_same (Compute period event second service) = rw same.days refl

  seen_same : (query : Query) → seen_by setup p query ≡ seen_by setup q query
  unfolding seen_by
  seen_same query = rw (query_same query, shown_same query) refl

-- a command is refused, answered and carried out alike where each part holds the same
pub same_refusal : (setup : CourtSetup) (p q : Parts) (command : Command) → ((part : PartId) → part_value p part ≡ part_value q part) → refusal setup p command ≡ refusal setup q command
same_refusal setup p q command same =
    let days = same_days p q (same Court) in
    refusal_rests setup p q command (ap (λ (d : DaysView). d.from) days) (ap (λ (d : DaysView). d.to) days) (λ part among. same part)

pub same_answer : (setup : CourtSetup) (p q : Parts) (command : Command) → ((part : PartId) → part_value p part ≡ part_value q part) → answered setup p command ≡ answered setup q command
same_answer setup p q command same =
    let days = same_days p q (same Court) in
    answered_rests setup p q command (ap (λ (d : DaysView). d.from) days) (ap (λ (d : DaysView). d.to) days) (λ part among. same part)

pub same_writes : (p q : Parts) (command : Command) → ((part : PartId) → part_value p part ≡ part_value q part) → (part : PartId) → changed p command part ≡ changed q command part
same_writes p q command same part = changed_same p q command (case_asked command) part (same part) where
  case_asked : (command : Command) → CaseSame p q command
  case_asked (Book s) = same_case p q s.case (same (Case s.case))
  case_asked (MoveHearing s) = same_case p q s.case (same (Case s.case))
  case_asked (Cancel case motion) = same_case p q case (same (Case case))
  case_asked (Fact case fact) = same_case p q case (same (Case case))
  case_asked _ = tt

pub same_parts : (setup : CourtSetup) (p q : Parts) (command : Command) → ((part : PartId) → part_value p part ≡ part_value q part) → (refusal setup p command ≡ refusal setup q command) × (answered setup p command ≡ answered setup q command) × ((part : PartId) → changed p command part ≡ changed q command part)
same_parts setup p q command same =
    (same_refusal setup p q command same, same_answer setup p q command same, same_writes p q command same)

-- and a query shows the same
pub same_view : (setup : CourtSetup) (p q : Parts) (query : Query) → ((part : PartId) → part_value p part ≡ part_value q part) → seen_by setup p query ≡ seen_by setup q query
same_view setup p q query same = seen_same setup p q (hold_same p q same) query
