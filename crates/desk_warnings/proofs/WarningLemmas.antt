-- What a clerk is warned of rests on what the parts hold alone.
use Rattle.std.proofs.Common.{◌≡◌, ◌∙◌, ◌++◌, ℕ, ℤ, List, [], Option, refl, ap, append_assoc}
use Rattle.case_numbers.specs.declared.names.NamedCase.{NamedCase}
use Rattle.case_numbers.specs.Words.{NameView}
use Rattle.rule6.specs.declared.service.ServiceKind.{ServiceKind}
use Rattle.rule6.specs.declared.timeliness.Filing.{Filing}
use Rattle.rule_periods.specs.declared.period.Period.{Period}
use Rattle.rule_periods.specs.declared.grant.Request.{Request}
use Rattle.rule_periods.specs.Words.{EventView}
use Rattle.docket_rows.specs.declared.command.Command.{Command as CommandOf}
use Rattle.docket_rows.specs.declared.command.Command.TheVariants as command
use Rattle.docket_rows.specs.declared.part.PartId.{PartId}
use Rattle.docket_rows.specs.Words.{Parts, part_value}
use Rattle.row_forms.specs.declared.row.Work.{Work}
use Rattle.reason_refusals.proofs.CommandsLemmas.CallerLemmas.{parts_same}
use Rattle.court_days.specs.Words.{CourtView}
use Rattle.desk_numbers.specs.declared.moved.Moved.{Moved}
use Rattle.desk_warnings.specs.declared.register.HeldBack.{HeldBack}
use Rattle.desk_warnings.specs.Warnings.{if_made, warnings_on}

-- a command of another kind that isn't refused draws none
pub none_made : (court : CourtView) (moved : List Moved) (named : List NamedCase) (parts : Parts) (today : Option ℤ) (asked : CommandOf)
    → ((case : ℕ) (period : Period) (event : EventView) (second : Option ℤ) (service : Option ServiceKind) → asked ≡ command.Start case period event second service → ⊥)
    → ((case deadline : ℕ) (filing : Filing) → asked ≡ command.FileAct case deadline filing → ⊥)
    → ((case deadline : ℕ) (request : Request) → asked ≡ command.Extend case deadline request → ⊥)
    → ((day : ℤ) (from to : ℕ) → asked ≡ command.Inaccessible day from to → ⊥)
    → if_made court moved named parts today asked ≡ []
none_made court moved named parts today (command.Start case period event second service) start act request outage = absurd (start case period event second service refl)
none_made court moved named parts today (command.FileAct case deadline filing) start act request outage = absurd (act case deadline filing refl)
none_made court moved named parts today (command.Extend case deadline r) start act request outage = absurd (request case deadline r refl)
none_made court moved named parts today (command.Inaccessible day from to) start act request outage = absurd (outage day from to refl)
none_made court moved named parts today (command.OpenCase case filed) start act request outage = refl
none_made court moved named parts today (command.Motion case served need) start act request outage = refl
none_made court moved named parts today (command.Book s) start act request outage = refl
none_made court moved named parts today (command.MoveHearing s) start act request outage = refl
none_made court moved named parts today (command.Cancel case motion) start act request outage = refl
none_made court moved named parts today (command.Holiday day list) start act request outage = refl
none_made court moved named parts today (command.Fact case fact) start act request outage = refl

-- parts that hold the same draw the same warnings
pub warned_on : (court : CourtView) (moved : List Moved) (named : List NamedCase) (p q : Parts) → ((part : PartId) → part_value p part ≡ part_value q part) → (held : HeldBack) (name : Option NameView) (work : Work) → warnings_on court moved named p held name work ≡ warnings_on court moved named q held name work
warned_on court moved named p q same held name work = ap (λ (parts : Parts). warnings_on court moved named parts held name work) (parts_same p q same)

-- a text after four parts more
pub four_parts : (t0 t1 t2 t3 t4 a b c d : List ℕ) → t1 ≡ t0 ++ a → t2 ≡ t1 ++ b → t3 ≡ t2 ++ c → t4 ≡ t3 ++ d → t4 ≡ t0 ++ (((a ++ b) ++ c) ++ d)
four_parts t0 t1 t2 t3 t4 a b c d first second third fourth =
    fourth
    ∙ ap (λ (l : List ℕ). l ++ d) (third ∙ ap (λ (l : List ℕ). l ++ c) (second ∙ ap (λ (l : List ℕ). l ++ b) first))
    ∙ ap (λ (l : List ℕ). (l ++ c) ++ d) (append_assoc t0 a b)
    ∙ ap (λ (l : List ℕ). l ++ d) (append_assoc t0 (a ++ b) c)
    ∙ append_assoc t0 ((a ++ b) ++ c) d
